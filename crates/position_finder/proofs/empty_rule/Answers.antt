-- `position_finder::empty_rule` meets its contract, by those of its steps.
use Rattle.position_finder.proofs.Joined.{regexes_of, tags_held, empty_answered}
use Rattle.position_finder.proofs.empty_rule.Goals as goal

pub flags_of-flags-requires : goal.flags_of-flags-requires
flags_of-flags-requires c =
    let z = c.before in
    let w = z.requires in
    (regexes_of w.0, tags_held z.args.rules w.0 w.1 w.2)

pub returns : goal.returns
returns c =
    let z = c.args.rules in
    let f = c.flags_of-flags in
    λ rules places held.
    empty_answered z rules places held f.result c.first_up.result
    (f.ensures (regexes_of rules) (tags_held z rules places held)) c.first_up.ensures
