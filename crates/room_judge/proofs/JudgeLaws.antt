-- The refusals of a room in their order.
-- Assumes nothing.
use Rattle.std.specs.Prelude.{Err, Ok}
use mathlib.Core.Bool.{Bool, false, not}
use mathlib.Core.List.{List}
use mathlib.Core.Path.{◌≡◌, ap, sym, ◌∙◌}
use Prim.Native.Nat.{ℕ}
use Rattle.answer.specs.Answers.{Judged}
use Rattle.lists.proofs.FindLaws.{bool_agree}
use Rattle.answer.specs.declared.Refusal.{Refusal}
use Rattle.answer.specs.declared.Refusal.TheVariants.{NotRoom}
use Rattle.answer.specs.Refusal.{when}
use Rattle.grid.specs.declared.Corner.{Corner}
use Rattle.steps.specs.Chain.{as_walk_judged}
use Rattle.steps.proofs.ChainLaws.{good_walk}
use Rattle.room.specs.Room.{is_room, as_room_judged}
use Rattle.room.proofs.RoomLaws.{is_room_exactly, judged_refused, judged-room}
use Rattle.room_thread_laws.specs.Threads.{Told}
use Rattle.box_laws.specs.Box.{Boxable}

pub not_room_lem : (b : Bool) → b ≡ false → Err NotRoom ≡ when (not b) NotRoom
not_room_lem b e = rw e

module _ (c : Corner) (ds : List ℕ) (j : Judged) (e : j ≡ as_walk_judged c ds) where
  pub told_refused : (r : Refusal) → j ≡ Err r → Err r ≡ as_room_judged c ds
  told_refused r q = sym (judged_refused c ds r (sym e ∙ q))

  pub told_room : (m : Bool) (k : Judged) → j ≡ Ok tt → Told ds m → k ≡ when (not m) NotRoom → k ≡ as_room_judged c ds
  told_room m k q t s =
      s ∙ ap (λ (z : Bool). when (not z) NotRoom) (bool_agree m (is_room c ds) (λ p. (is_room_exactly c ds).1 ((t c).0 p)) (λ p. (t c).1 ((is_room_exactly c ds).0 p)))
      ∙ sym (judged-room c ds (sym e ∙ q))

  -- a chain without a fault has digits below 4, and not too many
  pub good_steps : j ≡ Ok tt → Boxable ds
  good_steps q = let w = good_walk c ds (sym e ∙ q) in record { digits = w.digits; short = w.short }
