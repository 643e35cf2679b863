-- Document 01's desk example as calls, and what it prints for them (document 01, "The desk program"): 1,000 blocks, 512
-- entries, and lists of 16 that hold 9 wherever nothing is filled.
use Rattle.std.specs.Prelude.{ℕ, ◌≡◌, List, [], ◌∷◌, false, replicate}
use Rattle.ledger.specs.Ledger.{told}
use Rattle.ledger.specs.Calls.{Call, report, one-term, all-terms, Answer, taken, of_one, of_all, ledger_step, answers}

abbrev pub nines : ℕ → List ℕ
nines n = replicate n 9

unfoldable pub example : List Call
example =
    report (1 ∷ 0 ∷ 16 ∷ 1 ∷ 2 ∷ 122 ∷ 110 ∷ 0 ∷ 0 ∷ 0 ∷ 3 ∷ 3 ∷ 80 ∷ 49 ∷ 55 ∷ 0 ∷ 0 ∷ 0 ∷ 1 ∷ [])
    ∷ report (1 ∷ 0 ∷ 8 ∷ 1 ∷ 2 ∷ 122 ∷ 110 ∷ 0 ∷ 0 ∷ 0 ∷ 4 ∷ [])
    ∷ one-term (1 ∷ 0 ∷ 8 ∷ 2 ∷ 0 ∷ 0 ∷ 0 ∷ 0 ∷ 2 ∷ 122 ∷ 110 ∷ []) (nines 16) (nines 16)
    ∷ all-terms (1 ∷ 0 ∷ 12 ∷ 3 ∷ 0 ∷ 0 ∷ 0 ∷ 0 ∷ 2 ∷ 122 ∷ 110 ∷ 3 ∷ 112 ∷ 49 ∷ 55 ∷ []) (nines 16)
    ∷ []

-- R 1, R 2, Q 1:3 2:4 and Q 1
unfoldable pub printed : List Answer
printed =
    taken (record { refusal = 0; number = 1 })
    ∷ taken (record { refusal = 0; number = 2 })
    ∷ of_one (record { answer = told 0 false 2; numbers = 1 ∷ 2 ∷ nines 14; counts = 3 ∷ 4 ∷ nines 14 })
    ∷ of_all (record { answer = told 0 false 1; numbers = 1 ∷ nines 15 })
    ∷ []

-- from the empty ledger on
abbrev pub Example : Type 0
Example = answers (ledger_step 64000 512) [] example ≡ printed
