use Rattle.mesh_page.specs.Variants.{variant_numbered}
use Rattle.mesh_page.proofs.Numbered.{loop_free, accounted, named, watched}
use Rattle.mesh_page.proofs.exports.mesh_page_run.Goals as goal

pub returns-clause-loop_free : goal.returns-clause-loop_free
returns-clause-loop_free c = loop_free (variant_numbered c.args.variant) c.args.input.now

pub returns-clause-accounted : goal.returns-clause-accounted
returns-clause-accounted c = accounted (variant_numbered c.args.variant) c.args.input.now

pub returns-clause-named : goal.returns-clause-named
returns-clause-named c = named (variant_numbered c.args.variant) c.args.input.now

pub returns-clause-blocks : goal.returns-clause-blocks
returns-clause-blocks c = λ asked. watched (variant_numbered c.args.variant) c.args.input.now
