-- What follows from the demands and is asked often: demand 1 leaves no choice of the functions; when a text is accepted, and where it is
-- refused; that a sheet which denotes nothing accepts no text, and that a long enough stack never runs out.
-- What the requests claim is in `Requests`.
use Rattle.std.specs.Prelude.{◌≡◌, refl, List, ◌↔◌, ℕ, ◌≤◌, length}
use Rattle.sheet.specs.Sheet.{Sheet}
use Rattle.sheet.specs.SheetFormat.{Spells}
use Rattle.sheet.specs.Spelling.{Bytes}
use Rattle.types.specs.Denotation.{Denotes}
use Rattle.image.specs.Answer.{Answer, answer}
use Rattle.image.specs.Image.{image_of}
use Rattle.lexer.specs.RuleOrder.{by_kind}
use Rattle.machine.specs.Lent.{most_text_bytes, long_enough, Lent}
use Rattle.machine.specs.Runs.{Short, ManyRows}
use Rattle.machine.specs.OwnAnswer.{OwnAnswer}
use Rattle.machine.specs.Lexes.{Lexeme, tokens_of, Lexes, AnswerOfReading}
use Rattle.machine.proofs.laws.AcceptanceLaws.{accepted_iff, accepted_answer, answered_reading, own-answer-not_17}
use Rattle.demands.specs.Demands.{Functions, Accepts, Demand1, Demand3}
use Rattle.demands.proofs.laws.Proofs.{cited, demand_1}

-- Any two functions that meet demand 1 are the same: those that the code's contracts cite.
module _ (f : Functions) (demand : Demand1 f) where
  pub one_check : (sheet work : List ℕ) → Bytes sheet → f.check sheet work ≡ cited.check sheet work
  one_check sheet work bytes = (demand.checking sheet work bytes _).1 ((demand_1.checking sheet work bytes _).0 refl)

  pub one_write : (sheet work buffer : List ℕ) → Bytes sheet → f.write sheet work buffer ≡ cited.write sheet work buffer
  one_write sheet work buffer bytes = (demand.writing sheet work buffer bytes _).1 ((demand_1.writing sheet work buffer bytes _).0 refl)

  pub one_run : (image text : List ℕ) → Bytes image → (lent : Lent) → f.run image text lent ≡ cited.run image text lent
  one_run image text bytes lent = (demand.running image text bytes lent _).1 ((demand_1.running image text bytes lent _).0 refl)

  pub one_recognition : (sheet text work list : List ℕ) → Bytes sheet
      → f.recognise sheet text work list ≡ cited.recognise sheet text work list
  one_recognition sheet text work list bytes =
      (demand.recognising sheet text work list bytes _).1 ((demand_1.recognising sheet text work list bytes _).0 refl)

-- Of any functions that meet demand 3: a sheet that writing accepted, its image, a text within the limit, a long enough stack, and, where a
-- table is lent, one that is not short and holds the image's rows.
module _ (f : Functions) (demand : Demand3 f) (sheet work buffer : List ℕ) (bytes : Bytes sheet) (accepted : Accepts f sheet work buffer)
    (s : Sheet) (spells : Spells sheet s) (text : List ℕ) (lent : Lent)
    (within : length text ≤ most_text_bytes) (long : long_enough text ≤ length lent.stack)
    (not_short : Short lent.scanner → ⊥) (few_rows : ManyRows lent.scanner (image_of s) → ⊥) where
  -- What running the image answers.
  abbrev a : Answer
  a = (f.run (f.write sheet work buffer).part text lent).answer

  pub own : OwnAnswer s text a
  own = (demand.own_answer sheet work buffer bytes accepted s spells text lent within long not_short few_rows a).0 refl

  -- A text is accepted exactly when longest match over all rules reads it to its end and the expression denotes the tokens found.
  pub text_accepted_iff : (a.number ≡ 0)
      ↔ ((lexemes : List Lexeme) × Lexes by_kind s text (length text) lexemes × Denotes s.expression (tokens_of lexemes))
  text_accepted_iff = accepted_iff s text a own

  -- The answer then has the text's length and their count.
  pub text_accepted_answer : (lexemes : List Lexeme) → Lexes by_kind s text (length text) lexemes → Denotes s.expression (tokens_of lexemes)
      → a ≡ answer 0 (length text) (length lexemes)
  text_accepted_answer = accepted_answer s text a own

  -- Accepted or refused: "the place named is the first where no rule matches, or whose token no denoted sequence allows after those before, or the
  -- end, and the count is that of the tokens before it."
  pub text_reading : AnswerOfReading s text a.number a.place a.amount
  text_reading = answered_reading s text a own

  -- If the expression denotes nothing, no text is accepted.
  pub nothing_accepted : ((tokens : List ℕ) → Denotes s.expression tokens → ⊥) → a.number ≡ 0 → ⊥
  nothing_accepted none_denoted e = let x = text_accepted_iff.0 e in none_denoted (tokens_of x.0) x.2

  -- The run never gives 17.
  pub stack_never_short : a.number ≡ 17 → ⊥
  stack_never_short = own-answer-not_17 s text a own
