use Rattle.std.proofs.Common.{ℕ, ◌≡◌, ◌<◌, ◌||◌, Bool, List, get_or, sym, ◌∙◌, arith}
use Rattle.basics.specs.Lists.{same}
use Rattle.frames.specs.Frames.{folded_at}
use Rattle.frames.specs.Repeats.{slot_of, chain, Chained}
use Rattle.frames.proofs.Read.{line_named}
use Rattle.frames.proofs.Repeats.{has_term, has_none, has_more}
use Rattle.frames.proofs.in_chain.Goals as goal

-- a turn at the line in hand, r being whether its folded term is t
turn : (f t : List ℕ) {names earlier : List ℕ} {whole at : ℕ} (last : ℕ) {r : Bool} → Chained f names earlier whole → 0 < at → has_term f t (chain earlier last) ≡ has_term f t (chain earlier at) → r ≡ same t (folded_at f at)
    → has_term f t (chain earlier last) ≡ r || has_term f t (chain earlier (get_or earlier (slot_of at) 0))
turn f t {earlier} last h p e q = e ∙ has_more f t earlier h.falls _ p ∙ rw q

pub name-requires : goal.name-requires
name-requires c = line_named c.requires.1

pub name-requires-in-loop-at : goal.name-requires-in-loop-at
name-requires-in-loop-at c = line_named (c.loop-at.invariant.line (omega arith))

pub returns-then-same_bytes : goal.returns-then-same_bytes
returns-then-same_bytes c =
    let f = c.args.folded.frame.now in
    let q = rw (c.name.ensures, c.name-in-loop-at.ensures) at c.same_bytes.ensures in
    sym (turn f (folded_at f c.args.c.at) c.args.last c.requires.0 (omega arith) c.loop-at.invariant.left q ∙ rw c.if-same_bytes.true)

pub loop-at-preserved : goal.loop-at-preserved
loop-at-preserved c =
    let f = c.args.folded.frame.now in
    let q = rw (c.name.ensures, c.name-in-loop-at.ensures) at c.same_bytes.ensures in
    rw c.from-at-in-loop-at.ensures
    (record {
      left = turn f (folded_at f c.args.c.at) c.args.last c.requires.0 (omega arith) c.loop-at.invariant.left q ∙ rw c.if-same_bytes.false;
      line = c.requires.0.whole (slot_of c.loop-at.at);
    })

pub returns : goal.returns
returns c = sym (c.loop-at.invariant.left ∙ rw c.loop-at-test.false (has_none _ _ _))
