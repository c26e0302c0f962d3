-- The call's promise, by what the judge says.
-- Assumes nothing.
use Rattle.std.specs.Prelude.{Err, Ok}
use mathlib.Core.Bool.{Bool, true, false, not}
use mathlib.Core.List.{List}
use mathlib.Core.Path.{◌≡◌, refl, sym, ap, subst, ◌∙◌}
use Prim.Native.Nat.{ℕ, ◌+◌, ◌*◌, ◌≤◌, ◌<◌}
use native.Mathlib.Omega.{arith}
use lib.ListN.{length}
use mir.Val.{bool_byte}
use Rattle.answer.specs.Answers.{Counted, Judged}
use Rattle.lists.specs.Lists.{tally}
use Rattle.lists.proofs.BoolLaws.{is_false}
use Rattle.answer.specs.declared.{Refusal.Refusal, Refusal.TheVariants.NotRoom}
use Rattle.answer.specs.Refusal.{when}
use Rattle.grid.specs.declared.Corner.{Corner}
use Rattle.trace.specs.Verdict.{IsRoom}
use Rattle.answer.specs.Listed.{counted_of}
use Rattle.steps.specs.Chain.{as_walk_judged}
use Rattle.steps.proofs.ChainLaws.{good_short}
use Rattle.room.specs.Room.{as_room_judged}
use Rattle.room.proofs.RoomLaws.{AsRoom, good_room}
use Rattle.convex.specs.Convex.{ConvexIs, ConvexCall}
use Rattle.convex_laws.specs.Decide.{convex_of}
use Rattle.convex_laws.proofs.RoomLaws.{convex_of_exactly}
use Rattle.convex_laws.proofs.GirthLaws.{convex_girth}
use Rattle.box_laws.specs.Box.{Boxable, box_width, box_height}
use Rattle.box_laws.proofs.PlaceLaws.{width_few, height_few}
use Rattle.room_thread_laws.specs.Threads.{Told}
use Rattle.room_judge.proofs.JudgeLaws.{told_room}

-- a box of a chain with few steps, and a room with more steps than the edges around its box, which is not convex
module _ (ds : List ℕ) (b : Boxable ds) (width height : ℕ) (w : width ≡ box_width ds) (g : height ≡ box_height ds) where
  pub box_few : (width ≤ 16385) × (height ≤ 16385)
  box_few = (omega (arith, w, width_few ds b), omega (arith, g, height_few ds b))

  pub girth_no : 2 * (width + height) < length ds + 4 → (c : Corner) → IsRoom c ds → false ≡ convex_of c ds
  girth_no l c r = sym (is_false (convex_of c ds) (λ t. omega (arith, w, g, convex_girth c ds r b ((convex_of_exactly c ds r b.short).0 t))))

-- the call's promise, by what is wrong with the start and the chain as a room
module _ (s : Corner) (ds : List ℕ) (j : Judged) (e : j ≡ as_room_judged s ds) where
  told : (b : Bool) → j ≡ Ok tt → ((c : Corner) → IsRoom c ds → b ≡ convex_of c ds) → (n : ℕ) → n ≡ bool_byte b → ConvexCall s ds (Ok n)
  told b g f n h = record {
    says = b;
    convex = λ x. subst (ConvexIs s ds) (sym (f s room.room)) (convex_of_exactly s ds room.room (omega (arith, good_short 0 ds (omega arith) room.steps)));
    answer = subst (λ (m : ℕ). Counts (Ok m)) (sym (h ∙ byte b)) (ap (λ (k : Judged). counted_of k (tally b)) (sym g ∙ e));
  }
    where
      Counts : Counted → Type 0
      Counts r = r ≡ counted_of (as_room_judged s ds) (tally b)

      byte : (x : Bool) → bool_byte x ≡ tally x
      byte true = refl
      byte false = refl

      room : AsRoom s ds
      room = good_room s ds (sym e ∙ g)

  refused : (q : Refusal) → j ≡ Err q → ConvexCall s ds (Err q)
  refused q g = record { says = false; convex = λ x. absurd (clash x (sym g ∙ e)); answer = ap (λ (k : Judged). counted_of k 0) (sym g ∙ e) }
    where
      clash : as_room_judged s ds ≡ Ok tt → Err q ≡ as_room_judged s ds → ⊥
      clash x y = let z : ◌≡◌ {A = ℕ} 0 1 = cc in omega arith

-- the same where nothing is wrong before it is asked whether they are a room
module _ (ds : List ℕ) (m : Bool) (t : Told ds m) where
  judged : (s : Corner) → as_walk_judged s ds ≡ Ok tt → (b : Bool) → m ≡ b → when (not b) NotRoom ≡ as_room_judged s ds
  judged s g b x = told_room s ds (Ok tt) (sym g) m (when (not b) NotRoom) refl t (ap (λ (z : Bool). when (not z) NotRoom) (sym x))

  pub call_open : m ≡ false → (s : Corner) → as_walk_judged s ds ≡ Ok tt → ConvexCall s ds (Err NotRoom)
  call_open x s g = refused s ds (Err NotRoom) (judged s g false x) NotRoom refl

  pub call_room : m ≡ true → (b : Bool) → ((c : Corner) → IsRoom c ds → b ≡ convex_of c ds) → (n : ℕ) → n ≡ bool_byte b → (s : Corner) → as_walk_judged s ds ≡ Ok tt → ConvexCall s ds (Ok n)
  call_room x b f n h s g = told s ds (Ok tt) (judged s g true x) b refl f n h
