-- `rule_sorter::words_first` meets its contract: the word rules are appended to no rules, and the others to them.
use mathlib.Core.Path.{refl, ◌∙◌}
use Rattle.basics.specs.Lists.{partition}
use Rattle.basics.proofs.laws.Partitions.{length-partition}
use Rattle.lexer.specs.RuleOrder.{word_rule, words_first}
use Rattle.rule_sorter.proofs.Rules.{none-held, same_places}
use Rattle.rule_sorter.proofs.words_first.Goals as goal

pub append_kind-words-requires : goal.append_kind-words-requires
append_kind-words-requires c =
    let w = c.requires in
    (w.0, w.1, _, w.2, none-held _ refl refl refl)

pub append_kind-requires : goal.append_kind-requires
append_kind-requires c =
    let w = c.requires in
    let first = c.append_kind-words.ensures.1 w.0 w.1 _ w.2 (none-held _ refl refl refl) in
    (w.0, w.1, first.0, w.2, first.1)

pub returns : goal.returns
unfolding words_first partition
returns c =
    let words = c.append_kind-words in
    let others = c.append_kind in
    λ held places h.
    let first = words.ensures.1 held places _ h (none-held _ refl refl refl) in
    let all = others.ensures.1 held places first.0 h first.1 in
    same_places held (partition word_rule held) places all.0 h all.1 (length-partition word_rule held) (others.ensures.0 ∙ words.ensures.0)
