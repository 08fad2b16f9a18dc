use Rattle.std.proofs.Common.{◌∙◌}
use Rattle.mesh_cli.proofs.Forms.{one_word, two_words, three_words, four_words, five_words, six_words, no_words, more_words}
use Rattle.mesh_cli.proofs.words.command_of.Goals as goal

pub returns-in-len1-clause-value : goal.returns-in-len1-clause-value
returns-in-len1-clause-value c = c.of_one.ensures.value ∙ one_word c.args.words.now _ c.in-len1.len_at_least c.in-len1.len_below

pub returns-in-len2-clause-value : goal.returns-in-len2-clause-value
returns-in-len2-clause-value c = c.of_two.ensures.value ∙ two_words c.args.words.now _ c.in-len2.len_at_least c.in-len2.len_below

pub returns-in-len3-clause-value : goal.returns-in-len3-clause-value
returns-in-len3-clause-value c = c.run_of.ensures.value ∙ three_words c.args.words.now _ c.in-len3.len_at_least c.in-len3.len_below

pub returns-in-len4-clause-value : goal.returns-in-len4-clause-value
returns-in-len4-clause-value c = c.of_four.ensures.value ∙ four_words c.args.words.now _ c.in-len4.len_at_least c.in-len4.len_below

pub returns-in-len6-clause-value : goal.returns-in-len6-clause-value
returns-in-len6-clause-value c = c.of_six.ensures.value ∙ six_words c.args.words.now _ c.in-len6.len_at_least c.in-len6.len_below

pub returns-in_default-clause-value : goal.returns-in_default-clause-value
returns-in_default-clause-value c = no_words c.args.words.now c.in_default.len_below

pub returns-in_default-2-clause-value : goal.returns-in_default-2-clause-value
returns-in_default-2-clause-value c = five_words c.args.words.now c.in_default.len_at_least c.in_default.len_below

pub returns-in_default-3-clause-value : goal.returns-in_default-3-clause-value
returns-in_default-3-clause-value c = more_words c.args.words.now c.in_default.len_at_least
