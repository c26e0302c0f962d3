-- There is one answer.
-- Assumes nothing.
use Rattle.std.specs.Prelude.{Err, Ok}
use mathlib.Core.Bool.{Bool, true, false}
use mathlib.Core.List.{List}
use mathlib.Core.Path.{◌≡◌, refl, sym, ap, ◌∙◌}
use Prim.Native.Nat.{ℕ}
use Rattle.answer.specs.Answers.{Counted, Judged}
use Rattle.lists.specs.Lists.{tally}
use Rattle.grid.specs.declared.Corner.{Corner}
use Rattle.answer.specs.Listed.{counted_of}
use Rattle.room.specs.Room.{as_room_judged}
use Rattle.convex.specs.Convex.{ConvexIs, ConvexCall}
use Rattle.convex.proofs.ConvexCases as cases

convex_is_one : (c : Corner) (ds : List ℕ) (r s : Bool) → ConvexIs c ds r → ConvexIs c ds s → r ≡ s
convex_is_one c ds r s h g = same r s (λ e. g.1 (h.0 e)) (λ e. h.1 (g.0 e))
  where
    same : (r s : Bool) → (r ≡ true → s ≡ true) → (s ≡ true → r ≡ true) → r ≡ s
    same true s f b = sym (f refl)
    same false true f b = b refl
    same false false f b = refl

pub convex_call_one : {s : Corner} {ds : List ℕ} {r r' : Counted} → ConvexCall s ds r → ConvexCall s ds r' → r ≡ r'
convex_call_one {s} {ds} p q = p.answer ∙ go (as_room_judged s ds) refl ∙ sym q.answer
  where
    go : (j : Judged) → as_room_judged s ds ≡ j → counted_of j (tally p.says) ≡ counted_of j (tally q.says)
    go (Ok _) e = ap (λ (b : Bool). Ok (tally b)) (convex_is_one s ds p.says q.says (p.convex e) (q.convex e))
    go (Err r) e = refl
