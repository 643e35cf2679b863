-- Demand 3 shuts out six wrong indexes: on one list of calls each answers something else than the ledger, by one computed test.
-- Assumes nothing.
use Prim.Native.Nat.{ℕ, zero, suc}
use mathlib.Core.Path.{◌≡◌, refl, ap}
use mathlib.Core.List.{List, [], ◌∷◌, ◌++◌}
use mathlib.Core.Bool.{Bool, true, false, not}
use native.Mathlib.Omega.{arith}
use borrow.Author.Tests.{ltb-true}
use lib.Dec.{ltb}
use Rattle.basics.proofs.Lists.{and_left, and_right, eq_same}
use Rattle.query.specs.declared.ListAnswer.{ListAnswer}
use Rattle.basics.specs.Lists.{all, any, keep, same}
use Rattle.basics.specs.Words.{word_at}
use Rattle.terms.specs.Terms.{allowed, capital, fold_byte, folded, is_term}
use Rattle.frames.specs.Refusals.{first_of}
use Rattle.frames.specs.Frames.{version, body_length, kind, term_at, count_at, past_field, fields_up_to, fields, wrong_version, wrong_length, wrong_kind, passes_end, wrong_terms, bad_term, zero_count, repeats_after, repeated_term, head_rows, field_rows, report_rows, query_rows, query_refusal, line_at}
use Rattle.postings.specs.Coding.{groups, vbyte, code}
use Rattle.blocks.specs.Prescribed.{opened, onward, reached, prescribed}
use Rattle.ledger.specs.Ledger.{Report, lines_in, lines_of, named_in, named_by, start_of, in_report, in_reports, postings_of, with_name, names_after, names_from, names, sum, prescribed_blocks, earlier_rows, ledger_rows, enter_report, holds_term, count_in, first_count, list_from, listed, fill_two, fill_list}
use Rattle.ledger.specs.Calls.{Call, start, report, one-term, all-terms, Answer, started, taken, of_one, of_all, frame_of, Bytes, Framed, none, one, ledger_one, ledger_all, ledger_step, answers, final, Agrees}
use Rattle.ledger.specs.Strength.{Fault, right, wrong_step, wrong_index, full, in_first, counted_more, none_left, faults, faultless, Each, Strength, trial}
use Rattle.ledger.specs.Strength as strength

-- ---- frames of bytes

bytes_of : (s : List ℕ) → all (λ b. ltb b 256) s ≡ true → Bytes s
unfolding all
bytes_of [] e i = omega arith
bytes_of (b ∷ s) e zero = ltb-true b 256 (and_left (ltb b 256) (all (λ b. ltb b 256) s) e)
bytes_of (b ∷ s) e (suc i) = bytes_of s (and_right (ltb b 256) (all (λ b. ltb b 256) s) e) i

framed_of : (cs : List Call) → all (λ c. all (λ b. ltb b 256) (frame_of c)) cs ≡ true → Framed cs
unfolding all
framed_of [] e = none
framed_of (c ∷ cs) e = one (bytes_of (frame_of c) (and_left _ _ e)) (framed_of cs (and_right (all (λ b. ltb b 256) (frame_of c)) _ e))

-- ---- answers as numbers

flag : Bool → ℕ
flag true = 1
flag false = 0

listing : ListAnswer → List ℕ
listing a = a.refusal ∷ flag a.more ∷ a.filled ∷ []

spelt : List Answer → List ℕ
spelt [] = []
spelt (started ∷ more) = spelt more
spelt (taken a ∷ more) = a.refusal ∷ a.number ∷ spelt more
spelt (of_one l ∷ more) = listing l.answer ++ l.numbers ++ l.counts ++ spelt more
spelt (of_all l ∷ more) = listing l.answer ++ l.numbers ++ spelt more

-- the index with a fault answers the trial otherwise than the ledger
differs : Fault → Bool
differs x = not (same (spelt (answers (wrong_step x) [] (start ∷ trial))) (spelt (answers (ledger_step 64000 512) [] (start ∷ trial))))

-- THE TEST, and that the trial's frames are bytes
trial_bytes : all (λ c. all (λ b. ltb b 256) (frame_of c)) trial ≡ true
unfolding all trial frame_of
trial_bytes = refl

all_differ : all differs faults ≡ true
unfolding all any same word_at allowed capital fold_byte folded is_term first_of version body_length kind term_at count_at past_field fields_up_to fields wrong_version wrong_length wrong_kind passes_end wrong_terms bad_term zero_count repeats_after repeated_term head_rows field_rows report_rows query_rows query_refusal line_at groups vbyte code opened onward reached prescribed lines_in lines_of named_in named_by start_of in_report in_reports postings_of with_name names_after names_from names sum prescribed_blocks earlier_rows ledger_rows enter_report holds_term count_in first_count list_from listed fill_two fill_list ledger_one ledger_all ledger_step answers keep wrong_step full in_first counted_more none_left faults trial flag listing spelt differs
all_differ = refl

-- ---- so each is told apart by the trial, and none agrees

apart : (x : Fault) → differs x ≡ true → answers (wrong_step x) [] (start ∷ trial) ≡ answers right [] (start ∷ trial) → ⊥
unfolding differs
apart x d h =
    let e = ap spelt h in
    let z : ◌≡◌ {A = ℕ} 0 1 = cc (eq_same _ _ e) in
    absurd (omega arith)

each : (P : Fault → Type 0) → ((x : Fault) → differs x ≡ true → P x) → (xs : List Fault) → all differs xs ≡ true → Each P xs
unfolding all
each P f [] e = strength.none
each P f (x ∷ xs) e = strength.one (f x (and_left _ _ e)) (each P f xs (and_right (differs x) _ e))

-- ---- without a fault every step is the ledger's

same_step : (rs : List Report) (c : Call) → wrong_step faultless rs c ≡ right rs c
unfolding wrong_step ledger_step
same_step rs start = refl
same_step rs (report f) = refl
same_step rs (one-term f numbers counts) = refl
same_step rs (all-terms f numbers) = refl

same_answers : (rs : List Report) (cs : List Call) → answers (wrong_step faultless) rs cs ≡ answers right rs cs
unfolding answers
same_answers rs [] = refl
same_answers rs (c ∷ cs) = rw (same_step rs c, same_answers (right rs c).left cs)

same_final : (rs : List Report) (cs : List Call) → final (wrong_step faultless) rs cs ≡ final right rs cs
unfolding final
same_final rs [] = refl
same_final rs (c ∷ cs) = rw (same_step rs c, same_final (right rs c).left cs)

agrees : Agrees (wrong_index faultless)
unfolding answers final wrong_step ledger_step
agrees s rs cs h =
    record {
      same_answers = rw (same_answers [] cs) refl;
      right_counters = rw (same_final [] cs) (record { used = refl; terms = refl; reports = refl });
    }

pub shuts_out : Strength
shuts_out =
    record {
      told_apart = each _ apart faults all_differ;
      shut_out = each _ (λ x d h. apart x d ((h [] [] trial (framed_of trial trial_bytes)).same_answers)) faults all_differ;
      faultless_agrees = agrees;
    }
