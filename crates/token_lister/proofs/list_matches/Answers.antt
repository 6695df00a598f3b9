-- The scanner's answer leads from what is listed to what is listed next, for any rules that the tables were made of.
use mathlib.Core.Path.{refl, ◌∙◌}
use native.Mathlib.Omega.{arith}
use Rattle.lexer.specs.Positions.{positions}
use Rattle.token_lister.proofs.Reading.{reached_start, reached_end, reached_stop, reached_next, fits_here, nothing_at, match_is, action_is}
use Rattle.token_lister.proofs.list_matches.Goals as goal

pub loop-place-init : goal.loop-place-init
loop-place-init c = (omega arith, omega arith, refl, c.requires.2, λ rules ready. reached_start rules _ _ _)

pub returns-in_default : goal.returns-in_default
returns-in_default c =
    λ rules ready.
    reached_stop rules _ _ _ _ _ _ _ (c.loop-place.invariant.4 rules ready) (omega arith)
    (nothing_at rules _ _ _ _ ready c.args.text.now c.loop-place.place c.longest_match-found.result
    (c.longest_match-found.ensures (positions rules) ready.prepared) c.in_default.is)

pub overflow_add-end : goal.overflow_add-end
overflow_add-end c = omega (arith, (fits_here _ _ _ _ _ _ c.requires.3 _ c.longest_match-found.ensures _ _ c.in-Some.is c.loop-place.invariant.1).1)

pub bounds-action-m : goal.bounds-action-m
bounds-action-m c = (fits_here _ _ _ _ _ _ c.requires.3 _ c.longest_match-found.ensures _ _ c.in-Some.is c.loop-place.invariant.1).2

pub loop-place-smaller : goal.loop-place-smaller
loop-place-smaller c = let f = fits_here _ _ _ _ _ _ c.requires.3 _ c.longest_match-found.ensures _ _ c.in-Some.is c.loop-place.invariant.1 in omega (arith, f.0, f.1)

pub loop-place-preserved : goal.loop-place-preserved
loop-place-preserved c =
    let put = c.put_token-count in
    let i = c.loop-place.invariant in
    let f = fits_here _ _ _ _ _ _ c.requires.3 _ c.longest_match-found.ensures _ _ c.in-Some.is c.loop-place.invariant.1 in (
      omega (arith, put.ensures.0, i.0, f.0),
      f.1,
      put.auto.list ∙ i.2,
      put.ensures.1,
      λ rules ready.
          let r = i.4 rules ready in
          let text = c.args.text.now in
          let place = c.loop-place.place in
          let e = c.longest_match-found.ensures (positions rules) ready.prepared in
          let is = c.in-Some.is in
          reached_next rules text c.loop-place.count place _ _ _ _ r _ _ _ _ _ _ c.loop-place-test.true
          (match_is rules _ _ _ _ ready text place c.longest_match-found.result e _ _ is) f.0
          (action_is rules _ _ _ _ ready text place c.longest_match-found.result e _ _ is i.1)
          (put.ensures.2 r.so_far _ _ r.written),
    )

pub returns : goal.returns
returns c = λ rules ready. reached_end rules _ _ _ _ _ _ _ (c.loop-place.invariant.4 rules ready) c.loop-place-test.false
