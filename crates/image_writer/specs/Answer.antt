-- What the code's answer stands for: document 01's number, place and length for each of its cases, and the case for each way in
-- which writing ends. When it ends so is not said here.
use Rattle.std.specs.Prelude.{◌≡◌, List, ℕ, length, Result, Ok, Err}
use Rattle.image.specs.Answer.{Answer, answer}
use Rattle.image.specs.Write.{image_after}
use Rattle.image.specs.Write as page
use Rattle.image_writer.specs.declared.WriteError.{WriteError}
use Rattle.image_writer.specs.declared.WriteError.TheVariants.{TooLong, Refused}

-- "number, place and length: 0, 0 and bytes written on success; after 11 the bytes needed, otherwise length 0"
unfoldable pub answer_of : Result ℕ WriteError → Answer
answer_of (Ok written) = answer 0 0 written
answer_of (Err (TooLong needed)) = answer 11 0 needed
answer_of (Err (Refused refusal)) = answer refusal.question refusal.place 0

-- The case of each way to end. It keeps the length of the image and not its bytes, which are in the buffer.
unfoldable pub case_of : page.Written → Result ℕ WriteError
case_of (page.refused number place) = Err (Refused (record { question = number; place = place }))
case_of (page.too_long needed) = Err (TooLong needed)
case_of (page.written image) = Ok (length image)

-- Writing ends so: the answer, and what was in the image buffer and what is.
pub record Ends (m : page.Written) (r : Result ℕ WriteError) (entry exit : List ℕ) : Type 0 where
  pub answer : r ≡ case_of m
  pub image : exit ≡ image_after m entry
