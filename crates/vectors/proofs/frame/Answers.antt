-- Where a sound query's terms begin stand whole fields that are terms.
use Rattle.std.proofs.Common.{ℕ, ◌≡◌, false, List, Result, Ok, Err, IfOk, sym}
use Rattle.refusals.specs.declared.Refusal.{Refusal}
use Rattle.refusals.specs.Numbers.{refused_under}
use Rattle.frames.specs.declared.Query.{Query}
use Rattle.frames.specs.Frames.{first_term, terms, passes_end, bad_term, query_refusal}
use Rattle.frames.specs.Answers.{IsQuery}
use Rattle.frames.proofs.Laws.{terms_ready}
use Rattle.vectors.proofs.frame.Goals as goal

ready : (k most : ℕ) (f : List ℕ) (r : Result Query Refusal) → refused_under r ≡ query_refusal k most f → IfOk r (IsQuery f)
    → IfOk r (λ q. (passes_end 0 f first_term ≡ false) × (bad_term f (terms f) ≡ false))
ready k most f (Ok q) e p = rw p.terms at (terms_ready k most f q (sym e) p)
ready k most f (Err e) _ _ = tt

pub query_frame-requires : goal.query_frame-requires
query_frame-requires g c = ready 2 1 _ _ c.check_one.ensures.refused c.check_one.ensures.parts

pub query_frame-requires-in-Ok-All : goal.query_frame-requires-in-Ok-All
query_frame-requires-in-Ok-All g c = ready 3 8 _ _ c.check_all.ensures.refused c.check_all.ensures.parts
