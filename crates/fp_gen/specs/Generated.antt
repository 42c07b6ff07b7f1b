-- Theories made up to measure the program.
use Rattle.std.specs.Prelude.{ℕ, zero, suc, ◌+◌, ◌*◌, ◌^◌, ◌/◌, ◌%◌, ◌==◌, if◌then◌else◌, List, [], ◌∷◌, ◌++◌, codes}
use Rattle.std.specs.Fmt.{decimal}

-- the next word of the sequence
abbrev pub next_word : ℕ → ℕ
next_word word = (word * 6364136223846793005 + 1442695040888963407) % 2 ^ 64

-- which of the four functions a word stands for
abbrev pub kind_of : ℕ → ℕ
kind_of word = word / 2 ^ 33 % 4

-- the function of that kind, with `%` for its name: Ackermann's, one that swaps its arguments, halving, the greatest common divisor
abbrev pub template : ℕ → List ℕ
template zero = codes "fun % :: \"nat => nat => nat\" where \"% 0 y = y\" | \"% (Suc x) 0 = % x 1\" | \"% (Suc x) (Suc y) = % x (% (Suc x) y)\""
template (suc zero) = codes "fun % :: \"nat => nat => nat\" where \"% (Suc x) (Suc y) = % y x\""
template (suc (suc zero)) = codes "fun % :: \"nat => nat\" where \"% 0 = 0\" | \"% (Suc 0) = 0\" | \"% (Suc (Suc x)) = Suc (% x)\""
template (suc (suc (suc k))) = codes "fun % :: \"nat => nat => nat\" where \"% x y = (if y = 0 then x else % y (mod x y))\""

-- the text with the name in place of each `%`
abbrev pub filled : List ℕ → List ℕ → List ℕ
filled name [] = []
filled name (c ∷ cs) = (if c == 37 then name else c ∷ []) ++ filled name cs

-- the name of the i-th function
abbrev pub function : ℕ → List ℕ
function i = codes "f" ++ decimal i

-- the line of the i-th function, whose word this is
abbrev pub line_of : ℕ → ℕ → List ℕ
line_of word i = filled (function i) (template (kind_of word)) ++ 10 ∷ []

-- n lines more, behind the i-th, whose word this was
abbrev pub lines_after : ℕ → ℕ → ℕ → List ℕ
lines_after i word zero = []
lines_after i word (suc n) = line_of (next_word word) (i + 1) ++ lines_after (i + 1) (next_word word) n

abbrev pub large_theory : ℕ → ℕ → List ℕ
large_theory n seed = lines_after 0 seed n
