use Rattle.std.proofs.Common.{◌∙◌}
use Rattle.mesh_watch.proofs.Forms.{no_words, one_word, two_words, three_words, more_words}
use Rattle.mesh_watch.proofs.words.asked_of.Goals as goal

pub returns-in-empty : goal.returns-in-empty
returns-in-empty c = c.asked_with.ensures ∙ no_words c.args.words.now c.in-empty.len_below

pub returns-in-len1 : goal.returns-in-len1
returns-in-len1 c = c.of_one.ensures ∙ one_word c.args.words.now _ c.in-len1.len_at_least c.in-len1.len_below

pub returns-in-len2 : goal.returns-in-len2
returns-in-len2 c = c.of_two.ensures ∙ two_words c.args.words.now _ c.in-len2.len_at_least c.in-len2.len_below

pub returns-in-len3 : goal.returns-in-len3
returns-in-len3 c = c.of_three.ensures ∙ three_words c.args.words.now _ c.in-len3.len_at_least c.in-len3.len_below

pub returns-in_default : goal.returns-in_default
returns-in_default c = more_words c.args.words.now c.in_default.len_at_least
