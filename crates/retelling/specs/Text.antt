-- What `retell` prints, as a list of bytes. Document 01, "Entry": "prints `crumbs N clock N stage pending` (or `decided`), decimal, then
-- per crumb three f32 patterns of eight hexadecimal capitals"; "On refusal it prints only `refused N`."
use Rattle.std.specs.Prelude.{ℕ, zero, suc, ◌+◌, ◌/◌, ◌%◌, Bool, true, false, cond, List, [], ◌∷◌, ◌++◌, ltb, length, Float}
use Rattle.std.specs.Float.Ieee.{to_bits}
use Rattle.std.specs.Float.{binary32}
use Rattle.crumbs.specs.declared.Crumb.{Crumb}

-- ---- bytes
abbrev pub space : List ℕ
space = 32 ∷ []

-- a line ends by one byte
abbrev pub end : List ℕ
end = 10 ∷ []

-- the digit `0` is byte 48, and `A` is byte 65
abbrev pub numeral : ℕ → ℕ
numeral d = 48 + d

unfoldable pub capital : ℕ → ℕ
capital d = cond (ltb d 10) (48 + d) (55 + d)

-- ---- "decimal"
-- a number below ten is its digit, any other its tenth part and then its last digit; it has fewer than 1 + `most` digits
unfoldable pub numerals : ℕ → ℕ → List ℕ
numerals zero n = numeral n ∷ []
numerals (suc most) n = elim (ltb n 10) [ true ↦ numeral n ∷ [] | false ↦ numerals most (n / 10) ++ numeral (n % 10) ∷ [] ]

unfoldable pub decimal : ℕ → List ℕ
decimal n = numerals n n

-- ---- "three f32 patterns of eight hexadecimal capitals"
-- the last k digits of a number
unfoldable pub capitals : ℕ → ℕ → List ℕ
capitals zero n = []
capitals (suc k) n = capitals k (n / 16) ++ capital (n % 16) ∷ []

unfoldable pub pattern : Float → List ℕ
pattern x = capitals 8 (to_bits binary32 x)

unfoldable pub crumb_line : Crumb → List ℕ
crumb_line c = pattern c.east ++ space ++ pattern c.north ++ space ++ pattern c.along ++ end

unfoldable pub crumb_lines : List Crumb → List ℕ
crumb_lines [] = []
crumb_lines (c ∷ l) = crumb_line c ++ crumb_lines l

-- ---- "`crumbs N clock N stage pending` (or `decided`)"
-- `crumbs `
abbrev pub crumbs_word : List ℕ
crumbs_word = 99 ∷ 114 ∷ 117 ∷ 109 ∷ 98 ∷ 115 ∷ 32 ∷ []

-- ` clock `
abbrev pub clock_word : List ℕ
clock_word = 32 ∷ 99 ∷ 108 ∷ 111 ∷ 99 ∷ 107 ∷ 32 ∷ []

-- ` stage `
abbrev pub stage_word : List ℕ
stage_word = 32 ∷ 115 ∷ 116 ∷ 97 ∷ 103 ∷ 101 ∷ 32 ∷ []

-- `decided`, `pending`
unfoldable pub stage_text : Bool → List ℕ
stage_text true = 100 ∷ 101 ∷ 99 ∷ 105 ∷ 100 ∷ 101 ∷ 100 ∷ []
stage_text false = 112 ∷ 101 ∷ 110 ∷ 100 ∷ 105 ∷ 110 ∷ 103 ∷ []

-- of so many crumbs, with the clock in ms
unfoldable pub first_line : ℕ → ℕ → Bool → List ℕ
first_line len clock decided =
    crumbs_word ++ decimal len ++ clock_word ++ decimal clock ++ stage_word ++ stage_text decided ++ end

unfoldable pub rebuilt_text : List Crumb → ℕ → Bool → List ℕ
rebuilt_text crumbs clock decided = first_line (length crumbs) clock decided ++ crumb_lines crumbs

-- ---- "On refusal it prints only `refused N`."
-- `refused `
abbrev pub refused_word : List ℕ
refused_word = 114 ∷ 101 ∷ 102 ∷ 117 ∷ 115 ∷ 101 ∷ 100 ∷ 32 ∷ []

unfoldable pub refused_text : ℕ → List ℕ
refused_text number = refused_word ++ decimal number ++ end
