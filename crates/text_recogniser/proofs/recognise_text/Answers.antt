-- `recognise_text` meets its contract: what the lister promises of the sheet in the image's order, and what the descent promises over the tokens
-- at the end of their array.
use borrow.Author.Rules.{rules}
use mathlib.Core.Path.{◌≡◌, refl}
use lib.ListN.{length}
use Rattle.lexer.specs.RuleOrder.{image_sheet}
use Rattle.text_recogniser.proofs.Endings.{rules_passed, typed_columns, passed_typed, listed_few, told_by, count_within, unmatched_ends, descent_ends}
use Rattle.text_recogniser.proofs.recognise_text.Goals as goal

pub list_tokens-listed-requires : goal.list_tokens-listed-requires
list_tokens-listed-requires c =
    let s = c.requires.2.0 in
    let p = c.requires.2.1 in
    let ordered = c.in_image_order-ordered in
    (c.requires.0, c.requires.1, refl, (image_sheet s, rules_passed _ ordered.result (ordered.ensures s p)))

pub returns-then-listed-text : goal.returns-then-listed-text
returns-then-listed-text c s p =
    let listed = c.list_tokens-listed.ensures (image_sheet s) (rules_passed _ c.in_image_order-ordered.result (c.in_image_order-ordered.ensures s p)) in
    unmatched_ends s (passed_typed s _ p) p.limits _ _ _ _ _ _ listed.0 _ _ listed.1 c.if-listed-text.true c.answer.result c.answer.ensures

pub at_end-tokens-requires : goal.at_end-tokens-requires
at_end-tokens-requires c =
    let s = c.requires.2.0 in
    let p = c.requires.2.1 in
    let listed = c.list_tokens-listed.ensures (image_sheet s) (rules_passed _ c.in_image_order-ordered.result (c.in_image_order-ordered.ensures s p)) in
    (count_within s (passed_typed s _ p) p.limits _ _ _ _ _ _ listed.0, listed_few s c.args.checked p c.args.text.now c.requires.0 listed.0)

pub descend-told-requires : goal.descend-told-requires
descend-told-requires c =
    let s = c.requires.2.0 in
    let p = c.requires.2.1 in
    let listed = c.list_tokens-listed.ensures (image_sheet s) (rules_passed _ c.in_image_order-ordered.result (c.in_image_order-ordered.ensures s p)) in
    let long : length c.at_end-tokens.result ≡ 2048 = search rules in (
      listed_few s c.args.checked p c.args.text.now c.requires.0 listed.0,
      long,
      (s.expression, passed_typed s _ p, c.descent_table-table.ensures _ (typed_columns s _ p)),
    )

pub decide-requires : goal.decide-requires
decide-requires c =
    let s = c.requires.2.0 in
    let p = c.requires.2.1 in
    let listed = c.list_tokens-listed.ensures (image_sheet s) (rules_passed _ c.in_image_order-ordered.result (c.in_image_order-ordered.ensures s p)) in
    let few = listed_few s c.args.checked p c.args.text.now c.requires.0 listed.0 in
    let long : length c.at_end-tokens.result ≡ 2048 = search rules in
    let descended = c.descend-told.ensures s.expression (passed_typed s _ p)
    (c.descent_table-table.ensures s.expression (typed_columns s _ p)) in
    let t = told_by _ _ c.descend-told.result long few descended in
    (few, (t.0, t.1))

pub returns : goal.returns
returns c s p =
    let listed = c.list_tokens-listed.ensures (image_sheet s) (rules_passed _ c.in_image_order-ordered.result (c.in_image_order-ordered.ensures s p)) in
    let few = listed_few s c.args.checked p c.args.text.now c.requires.0 listed.0 in
    let long : length c.at_end-tokens.result ≡ 2048 = search rules in
    let descended = c.descend-told.ensures s.expression (passed_typed s _ p)
    (c.descent_table-table.ensures s.expression (typed_columns s _ p)) in
    descent_ends s (passed_typed s _ p) p.limits _ _ _ _ _ _ listed.0 _ _ listed.1 c.if-listed-text.false c.at_end-tokens.result
    c.at_end-tokens.ensures long few c.descend-told.result descended c.decide.result c.decide.ensures
