-- The form that a repetition stands for, "μβ.(ε ∨ g·β)", and an expression with every repetition written as its form. Nothing is
-- computed by these: they say what repetition means.
use Rattle.std.specs.Prelude.{ℕ, zero, suc}
use Rattle.sheet.specs.Expression.{Expression, epsilon, bottom, token, sequence, alternative, fixed_point, variable, repetition}
use Rattle.sheet.specs.Sheet.{Sheet}

-- A variable's count where one more fixed point is open, `depth` fixed points out: below `depth` it stays, else it is one more.
abbrev pub raise_count : ℕ → ℕ → ℕ
raise_count zero n = suc n
raise_count (suc depth) zero = zero
raise_count (suc depth) (suc n) = suc (raise_count depth n)

-- The same expression there: none of its variables is that of the new fixed point.
abbrev pub raise : ℕ → Expression → Expression
raise depth epsilon = epsilon
raise depth bottom = bottom
raise depth (token k) = token k
raise depth (sequence g h) = sequence (raise depth g) (raise depth h)
raise depth (alternative g h) = alternative (raise depth g) (raise depth h)
raise depth (fixed_point g) = fixed_point (raise (suc depth) g)
raise depth (variable n) = variable (raise_count depth n)
raise depth (repetition g) = repetition (raise depth g)

-- μβ.(ε ∨ g·β), β new
abbrev pub repetition_form : Expression → Expression
repetition_form g = fixed_point (alternative epsilon (sequence (raise zero g) (variable zero)))

abbrev pub spelled_out : Expression → Expression
spelled_out epsilon = epsilon
spelled_out bottom = bottom
spelled_out (token k) = token k
spelled_out (sequence g h) = sequence (spelled_out g) (spelled_out h)
spelled_out (alternative g h) = alternative (spelled_out g) (spelled_out h)
spelled_out (fixed_point g) = fixed_point (spelled_out g)
spelled_out (variable n) = variable n
spelled_out (repetition g) = repetition_form (spelled_out g)

-- The sheet with its expression spelled out.
abbrev pub spelled_out_sheet : Sheet → Sheet
spelled_out_sheet s = record { tokens = s.tokens; rules = s.rules; expression = spelled_out s.expression }

-- An expression of the published forms alone: no repetition stands in it.
abbrev pub Published : Expression → Type 0
Published epsilon = Unit
Published bottom = Unit
Published (token k) = Unit
Published (sequence g h) = Published g × Published h
Published (alternative g h) = Published g × Published h
Published (fixed_point g) = Published g
Published (variable n) = Unit
Published (repetition g) = ⊥
