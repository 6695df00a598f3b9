-- What the lent buffers hold after checking and writing, said of their parts: "A refused compile leaves the image buffer untouched; success
-- leaves the bytes past the image. The first 65,536 work bytes end as zero, except after 1, when none changes; the rest never
-- change."
use Rattle.std.specs.Prelude.{◌≡◌, refl, List, ◌++◌, ℕ, ◌≤◌, ◌<◌, length, take, drop, replicate}
use Rattle.std.proofs.Common.{take_at, lt-ltb, le-ltb}
use Rattle.basics.specs.Lists.{written_over}
use Rattle.image.specs.Check.{work_bytes, work_after}
use Rattle.image.specs.Write.{Written, refused, too_long, written, image_after, written_part}

-- "A refused compile leaves the image buffer untouched; success leaves the bytes past the image."
pub image_buffer : (w : Written) (buffer : List ℕ) → image_after w buffer ≡ written_over (written_part w) buffer
unfolding image_after written_part written_over
image_buffer (refused question place) buffer = refl
image_buffer (too_long needed) buffer = refl
image_buffer (written image) buffer = refl

-- The written part is the image.
pub image-written : (image buffer : List ℕ) → take (length image) (image_after (written image) buffer) ≡ image
unfolding image_after
image-written image buffer = take_at image (drop (length image) buffer) (length image) refl

-- The work area.
pub work_short : (work : List ℕ) → length work < work_bytes → work_after work ≡ work
unfolding work_after
work_short work h = rw (lt-ltb (length work) work_bytes h)

pub work_cleared : (work : List ℕ) → work_bytes ≤ length work → work_after work ≡ replicate work_bytes 0 ++ drop work_bytes work
unfolding work_after
work_cleared work h = rw (le-ltb (length work) work_bytes h)
