-- The laws stand in `Codes` and `Laws`; what is left is arithmetic.
use mathlib.Core.Path.{◌≡◌, sym, ◌∙◌}
use mathlib.Core.List.{List, [], ◌++◌}
use Prim.Native.Nat.{ℕ}
use native.Mathlib.Omega.{arith}
use lib.ListN.{length}
use Rattle.postings.specs.Coding.{posting}
use Rattle.postings.specs.Claims.{Within}
use Rattle.postings.proofs.Codes.{Held, decode-code, decoded_held, code_decode, posting_same}
use Rattle.postings.proofs.Laws.{decoded-within}
use Rattle.postings.proofs.codes_round_trip.Goals as goal

within : {s : List ℕ} {g f l : ℕ} → Held s g f l → Within g f
within h =
    record {
      gap = h.gap;
      count = h.count;
      below_four = λ k. (omega (arith, h.count), omega (arith, h.gap));
      from_four = λ k. (omega (arith, h.gap), omega (arith, h.gap), omega arith, omega (arith, h.count));
    }

pub returns-clause-round_trips : goal.returns-clause-round_trips
returns-clause-round_trips c =
    record {
      decode_code = decode-code;
      code_decode = code_decode;
      limits = λ s g f l e. let h : Held s g f l = decoded_held s g f l e in (within h, h.len, (decoded-within s e).1);
    }

-- gap 1 and gap 2 would be decoded alike
pub returns-clause-not_constant : goal.returns-clause-not_constant
returns-clause-not_constant c =
    λ same decoded h.
    let one : decoded (same ++ []) ≡ posting 1 1 (length same) = h 1 1 (omega arith) (omega arith) (omega arith) (omega arith) [] in
    let two : decoded (same ++ []) ≡ posting 2 1 (length same) = h 2 1 (omega arith) (omega arith) (omega arith) (omega arith) [] in
    let z : ◌≡◌ {A = ℕ} 1 2 = (posting_same (sym one ∙ two)).0 in
    absurd (omega arith)
