-- The text of the desk's answers: lists of bytes in ASCII.
use Rattle.std.specs.Prelude.{ℕ, zero, suc, ◌+◌, ◌/◌, ◌%◌, List, [], ◌∷◌, ◌++◌, Bool, cond, ltb, eqb, take}
use Rattle.ingest.specs.declared.ReportAnswer.{ReportAnswer}
use Rattle.query.specs.declared.ListAnswer.{ListAnswer}
use Rattle.query.specs.Listing.{ListedOne, ListedAll}

-- ---- the bytes that stand for themselves

abbrev pub newline : ℕ
newline = 10

abbrev pub space : ℕ
space = 32

abbrev pub plus : ℕ
plus = 43

abbrev pub zero_digit : ℕ
zero_digit = 48

abbrev pub colon : ℕ
colon = 58

abbrev pub letter_e : ℕ
letter_e = 69

abbrev pub letter_q : ℕ
letter_q = 81

abbrev pub letter_r : ℕ
letter_r = 82

-- ---- numbers

-- a number in decimal digits, highest first; a number below ten is one digit, so zero is `0` and no other number starts
-- with it
unfoldable pub decimal_up_to : ℕ → ℕ → List ℕ
decimal_up_to zero n = []
decimal_up_to (suc fuel) n =
    let tens = decimal_up_to fuel (n / 10) in cond (ltb n 10) [] tens ++ ((zero_digit + n % 10) ∷ [])

-- a number has no more digits than its value plus one
unfoldable pub decimal : ℕ → List ℕ
decimal n = decimal_up_to (suc n) n

-- ---- lines

-- a letter, a space, a number, the line's end
unfoldable pub numbered : ℕ → ℕ → List ℕ
numbered letter n = letter ∷ space ∷ (decimal n ++ (newline ∷ []))

-- `E number`: a refusal
abbrev pub refusal_line : ℕ → List ℕ
refusal_line n = numbered letter_e n

-- `R number`: a report was taken
unfoldable pub report_line : ReportAnswer → List ℕ
report_line a = cond (eqb a.refusal 0) (numbered letter_r a.number) (refusal_line a.refusal)

-- ` number:count`, for each place of the two lists of kind 02
unfoldable pub pair_text : ℕ → ℕ → List ℕ
pair_text number count = space ∷ (decimal number ++ (colon ∷ decimal count))

unfoldable pub pairs_text : List ℕ → List ℕ → List ℕ
pairs_text [] counts = []
pairs_text (n ∷ numbers) [] = []
pairs_text (n ∷ numbers) (f ∷ counts) = pair_text n f ++ pairs_text numbers counts

-- ` number`, for each place of the list of kind 03
unfoldable pub place_text : ℕ → List ℕ
place_text number = space ∷ decimal number

unfoldable pub places_text : List ℕ → List ℕ
places_text [] = []
places_text (n ∷ numbers) = place_text n ++ places_text numbers

-- the end of a result: ` +` where more remain, then the line's end
unfoldable pub end_text : Bool → List ℕ
end_text more = cond more (space ∷ plus ∷ []) [] ++ (newline ∷ [])

-- `Q`, the places and the end; or the refusal
unfoldable pub list_line : ListAnswer → List ℕ → List ℕ
list_line a places = cond (eqb a.refusal 0) (letter_q ∷ (places ++ end_text a.more)) (refusal_line a.refusal)

-- only the places that were filled
unfoldable pub one_line : ListedOne → List ℕ
one_line l = let n = l.answer.filled in list_line l.answer (pairs_text (take n l.numbers) (take n l.counts))

unfoldable pub all_line : ListedAll → List ℕ
all_line l = list_line l.answer (places_text (take l.answer.filled l.numbers))
