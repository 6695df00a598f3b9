-- `list_tokens` meets its contract, by those of its steps.
use Rattle.token_lister.proofs.Rules.{in_range, rules_ready}
use Rattle.token_lister.proofs.list_tokens.Goals as goal

pub tables_of-tables-requires : goal.tables_of-tables-requires
tables_of-tables-requires c =
    let w = c.requires.3 in
    in_range w.0 c.args.rules w.1 c.positions_of-positions.result c.positions_of-positions.ensures

pub list_matches-requires : goal.list_matches-requires
list_matches-requires c =
    let w = c.requires.3 in
    let positions = c.positions_of-positions in (
      c.requires.0,
      c.requires.1,
      c.requires.2,
      (w.0.rules, rules_ready w.0 c.args.rules w.1 positions.result positions.ensures _ c.tables_of-tables.ensures),
    )

pub returns : goal.returns
returns c =
    let positions = c.positions_of-positions in
    λ s passed.
    c.list_matches.ensures s.rules
    (rules_ready s c.args.rules passed positions.result positions.ensures _ c.tables_of-tables.ensures)
