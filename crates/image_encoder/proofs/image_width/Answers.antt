-- `image_encoder::image_width` meets its contract: the cursor moves past the numbers wherever they are written.
use Rattle.image_encoder.proofs.Whole.{image_measured}
use Rattle.image_encoder.proofs.image_width.Goals as goal

pub returns : goal.returns
returns c = λ s h. image_measured _ (c.emit_image.ensures s h)
