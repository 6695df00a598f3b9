-- `position_finder::positions_of` meets its contract, by those of its steps.
use Rattle.position_finder.proofs.Joined.{regexes_of, regexes-held, rules-counted, answered}
use Rattle.position_finder.proofs.positions_of.Goals as goal

pub sweep-forest-requires : goal.sweep-forest-requires
sweep-forest-requires c =
    let z = c.before in
    let w = z.requires in
    (regexes_of w.0, regexes-held z.args.rules w.0 w.1 w.2, rules-counted z.args.rules w.0 w.1 w.2)

pub returns : goal.returns
returns c =
    let f = c.sweep-forest in
    let z = c.args.rules in
    λ rules places held.
    answered z rules places held f.result
    (f.ensures (regexes_of rules) (regexes-held z rules places held) (rules-counted z rules places held))
