-- One line, answered: the call.
-- Assumes nothing.
use mathlib.Core.Path.{◌≡◌, refl, sym, ◌∙◌}
use mathlib.Core.List.{List}
use Prim.Native.Nat.{ℕ, ◌<◌, ◌≤◌}
use native.Mathlib.Omega.{arith}
use borrow.Author.Tests.{le-leb, lt-leb}
use lib.ListN.{length}
use Rattle.line_frame.specs.Line.{line_answer}
use Rattle.line_frame.specs.Sizes.{most_answer}
use Rattle.line_fields.specs.Put.{Wrote}
use Rattle.line_reply.specs.Reply.{LineIs}

-- the call for one line, if the buffer is too short, and if it is not
pub reply_short : (s out : List ℕ) → length out < most_answer → LineIs s out 0 out
reply_short s out h = record {
  answer = rw (lt-leb most_answer (length out) h) refl;
  buffer = rw (lt-leb most_answer (length out) h) refl;
}

pub reply_told : (s out : List ℕ) {e : ℕ} {out' : List ℕ} → most_answer ≤ length out → Wrote (line_answer s) 0 out e out' → LineIs s out e out'
reply_told s out h w = record {
  answer = rw (le-leb most_answer (length out) h) (omega (arith, w.end));
  buffer = rw (le-leb most_answer (length out) h) w.buffer;
}

-- which has one answer and one state of the buffer
pub line_is_one : {s before after₁ after₂ : List ℕ} {n₁ n₂ : ℕ} → LineIs s before n₁ after₁ → LineIs s before n₂ after₂ → (n₁ ≡ n₂) × (after₁ ≡ after₂)
line_is_one g h = (g.answer ∙ sym h.answer, g.buffer ∙ sym h.buffer)
