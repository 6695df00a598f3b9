-- `image_encoder::write_image` meets its contract.
use Rattle.image_encoder.proofs.Whole.{image_measured, image-written}
use Rattle.image_encoder.proofs.write_image.Goals as goal

pub emit_image-requires : goal.emit_image-requires
emit_image-requires c = let p = c.requires in (p.0, p.1, p.3)

pub returns : goal.returns
returns c = λ s h room. let x = c.emit_image.ensures s h in (image_measured _ x, image-written _ x room)
