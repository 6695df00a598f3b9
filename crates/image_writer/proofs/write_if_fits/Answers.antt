-- `image_writer::write_if_fits` meets its contract. Where question 11 has been passed, the image fits, since it was measured, or since
-- every image does.
use Prim.Native.Nat.{◌≤◌}
use lib.ListN.{length}
use Rattle.image.specs.Image.{plain_image, image_bytes}
use Rattle.image_writer.proofs.Endings.{positions_most, parts_of, room_for_any, fits, ends_too_long, ends_written}
use Rattle.image_writer.proofs.write_if_fits.Goals as goal
use Rattle.image_writer.proofs.write_if_fits.Goals.{then-image-lt-ROOM_FOR_ANY+else-image-needed, else-image-lt-ROOM_FOR_ANY}

pub positions_of-positions-requires : goal.positions_of-positions-requires
positions_of-positions-requires c = let w = c.requires in (w.0.rules, w.1.places, w.1.rules_held)

pub image_width-needed-requires : goal.image_width-needed-requires
image_width-needed-requires c =
    let s = c.requires.0 in
    let h = c.requires.1 in
    let p = c.positions_of-positions in
    let held = p.ensures s.rules h.places h.rules_held in
    (s, parts_of s c.args.checked h p.result held _ (c.grammar_of-grammar.ensures s h), positions_most s c.args.checked h p.result held)

pub returns-then-image-needed : goal.returns-then-image-needed
returns-then-image-needed c =
    let p = c.positions_of-positions in
    λ s h.
    ends_too_long (image_bytes (plain_image s)) c.args.image.now
    (c.image_width-needed.ensures s
    (parts_of s c.args.checked h p.result (p.ensures s.rules h.places h.rules_held) _ (c.grammar_of-grammar.ensures s h)))
    c.if-image-needed.true

pub write_image-requires : goal.write_image-requires
write_image-requires c =
    let s = c.requires.0 in
    let h = c.requires.1 in
    let p = c.positions_of-positions in
    let held = p.ensures s.rules h.places h.rules_held in
    let made = parts_of s c.args.checked h p.result held _ (c.grammar_of-grammar.ensures s h) in (
      s,
      made,
      elim c.if-image-lt-ROOM_FOR_ANY.branch [
        | then-image-lt-ROOM_FOR_ANY+else-image-needed w ↦ fits (image_bytes (plain_image s)) c.args.image.now (w.image_width-needed.ensures s made) w.if-image-needed.false
        | else-image-lt-ROOM_FOR_ANY w ↦ room_for_any s c.args.checked h c.args.image.now w.if-image-lt-ROOM_FOR_ANY.false
      ],
      positions_most s c.args.checked h p.result held,
    )

pub returns : goal.returns
returns c =
    let p = c.positions_of-positions in
    λ s h.
    let made = parts_of s c.args.checked h p.result (p.ensures s.rules h.places h.rules_held) _ (c.grammar_of-grammar.ensures s h) in
    let room : length (image_bytes (plain_image s)) ≤ length c.args.image.now =
    elim c.if-image-lt-ROOM_FOR_ANY.branch [
      | then-image-lt-ROOM_FOR_ANY+else-image-needed w ↦ fits (image_bytes (plain_image s)) c.args.image.now (w.image_width-needed.ensures s made) w.if-image-needed.false
      | else-image-lt-ROOM_FOR_ANY w ↦ room_for_any s c.args.checked h c.args.image.now w.if-image-lt-ROOM_FOR_ANY.false
    ] in
    ends_written (image_bytes (plain_image s)) c.args.image.now room (c.write_image.ensures s made room)
