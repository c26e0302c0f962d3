-- Refusal 7 of two parties: given at the first moment at which the nodes that either needs exceed the records, and never if all
-- of the steps survive and the table is large enough in the end. Assumes nothing.
use Rattle.std.specs.Prelude.{Err, Ok}
use mathlib.Core.Bool.{Bool, true, false}
use mathlib.Core.List.{List, [], ◌∷◌, ◌++◌, append_assoc}
use mathlib.Core.Path.{◌≡◌, refl, ap, ap₂, sym, ◌∙◌, subst}
use Prim.Native.Nat.{ℕ, zero, suc, pred, ◌+◌, ◌<◌, ◌≤◌}
use native.Mathlib.Omega.{arith}
use borrow.Author.Tests.{ltb-false, lt-ltb, le-ltb}
use lib.Dec.{ltb}
use lib.ListN.{length, take}
use Rattle.answer.specs.Answers.{Judged}
use Rattle.answer.specs.declared.Refusal.TheVariants.{NoRoom}
use Rattle.answer.specs.Refusal.{when, or_else}
use Rattle.lists.specs.Lists.{Below}
use Rattle.grid.specs.declared.Corner.{Corner}
use Rattle.steps.specs.Operations.{survivors_from}
use Rattle.answer.proofs.RefusalLaws.{or_else_good, when_good}
use Rattle.steps.proofs.SurvivorLaws.{operate_step}
use Rattle.pair_steps.specs.Parties.{op_of, moves, own_ops, moved_by}
use Rattle.pair_steps.proofs.PartyLaws.{own_mine, own_other, moved_mine, moved_other}
use Rattle.pair_table.specs.Slots.{needs_of}
use Rattle.pair.specs.Call.{pair_room_from}
use Rattle.pair_laws.proofs.UnionLaws.{needs_mono}
use Rattle.pair_laws.proofs.MomentLaws.{needs-next}

module _ (r : ℕ) (c e : Corner) where
  -- the nodes that either needs after k bytes
  abbrev pub needs : List ℕ → List ℕ → List ℕ → ℕ → ℕ
  needs ds es os k = length (needs_of c e (survivors_from ds (own_ops 0 (take k os))) (survivors_from es (own_ops 1 (take k os))))

  needs_suc : (ds es : List ℕ) (o : ℕ) (os : List ℕ) (k : ℕ) → needs ds es (o ∷ os) (suc k) ≡ needs (moved_by 0 ds o) (moved_by 1 es o) os k
  needs_suc ds es o os k = ap length (needs-next c e ds es o (take k os))

  -- the table is large enough now: what is left decides
  pub room_end : (b : ℕ) (ds es : List ℕ) → length (needs_of c e ds es) ≤ r → when (ltb r (length (needs_of c e ds es))) (NoRoom (pred b)) ≡ Ok tt
  room_end b ds es h = ap (λ (t : Bool). when t (NoRoom (pred b))) (le-ltb r (length (needs_of c e ds es)) h)

  pub room_fits : (b : ℕ) (ds es : List ℕ) (o : ℕ) (os : List ℕ) → length (needs_of c e ds es) ≤ r → pair_room_from r c e b ds es (o ∷ os) ≡ pair_room_from r c e (suc b) (moved_by 0 ds o) (moved_by 1 es o) os
  room_fits b ds es o os h = ap (λ (j : Judged). or_else j (pair_room_from r c e (suc b) (moved_by 0 ds o) (moved_by 1 es o) os)) (room_end b ds es h)

  -- the table is large enough at every moment
  pub room-none : (b : ℕ) (ds es os : List ℕ) → ((k : ℕ) → k ≤ length os → needs ds es os k ≤ r) → pair_room_from r c e b ds es os ≡ Ok tt
  room-none b ds es [] f = room_end b ds es (f 0 (omega arith))
  room-none b ds es (o ∷ os) f =
      ap₂ or_else (room_end b ds es (f 0 (omega arith)))
      (room-none (suc b) (moved_by 0 ds o) (moved_by 1 es o) os (λ k h. subst (λ (n : ℕ). n ≤ r) (needs_suc ds es o os k) (f (suc k) (omega arith))))

  pub room_full : (b : ℕ) (ds es os : List ℕ) → r < length (needs_of c e ds es) → pair_room_from r c e b ds es os ≡ Err (NoRoom (pred b))
  room_full b ds es [] h = ap (λ (t : Bool). when t (NoRoom (pred b))) (lt-ltb r (length (needs_of c e ds es)) h)
  room_full b ds es (o ∷ os) h =
      ap (λ (t : Bool). or_else (when t (NoRoom (pred b))) (pair_room_from r c e (suc b) (moved_by 0 ds o) (moved_by 1 es o) os)) (lt-ltb r (length (needs_of c e ds es)) h)

  pub room-first : (b : ℕ) (ds es os : List ℕ) (k p : ℕ) → k ≤ length os → ((h : ℕ) → h < k → needs ds es os h ≤ r) → r < needs ds es os k → p ≡ pred (b + k) → pair_room_from r c e b ds es os ≡ Err (NoRoom p)
  room-first b ds es os zero p l f x q =
      let g : pred b ≡ p = omega arith in
      room_full b ds es os x ∙ ap (λ (n : ℕ). Err (NoRoom n)) g
  room-first b ds es [] (suc k) p l f x q = absurd (omega arith)
  room-first b ds es (o ∷ os) (suc k) p l f x q =
      room_fits b ds es o os (f 0 (omega arith))
      ∙ room-first (suc b) (moved_by 0 ds o) (moved_by 1 es o) os k p (omega arith) (λ h m. subst (λ (n : ℕ). n ≤ r) (needs_suc ds es o os h) (f (suc h) (omega arith)))
      (subst (λ (n : ℕ). r < n) (needs_suc ds es o os k) x) (omega arith)

  -- the table was large enough at every moment
  pub room-all : (b : ℕ) (ds es os : List ℕ) → pair_room_from r c e b ds es os ≡ Ok tt → (k : ℕ) → k ≤ length os → needs ds es os k ≤ r
  room-all b ds es [] g zero l = ltb-false r (length (needs_of c e ds es)) (when_good (ltb r (length (needs_of c e ds es))) (NoRoom (pred b)) g)
  room-all b ds es [] g (suc k) l = absurd (omega arith)
  room-all b ds es (o ∷ os) g zero l =
      let t = ltb r (length (needs_of c e ds es)) in
      ltb-false r (length (needs_of c e ds es)) (when_good t (NoRoom (pred b)) (or_else_good (when t (NoRoom (pred b))) (pair_room_from r c e (suc b) (moved_by 0 ds o) (moved_by 1 es o) os) g).0)
  room-all b ds es (o ∷ os) g (suc k) l =
      let t = ltb r (length (needs_of c e ds es)) in
      subst (λ (n : ℕ). n ≤ r) (sym (needs_suc ds es o os k))
      (room-all (suc b) (moved_by 0 ds o) (moved_by 1 es o) os (or_else_good (when t (NoRoom (pred b))) (pair_room_from r c e (suc b) (moved_by 0 ds o) (moved_by 1 es o) os) g).1 k (omega arith))

-- steps that all survive come to the end
moved-append : (q : ℕ) (s : List ℕ) (o : ℕ) (os : List ℕ) → Below 4 (own_ops q (o ∷ os)) → (moved_by q s o ++ own_ops q os ≡ s ++ own_ops q (o ∷ os)) × Below 4 (own_ops q os)
moved-append q s o os b = go (moves q o) refl
  where
    go : (t : Bool) → moves q o ≡ t → (moved_by q s o ++ own_ops q os ≡ s ++ own_ops q (o ∷ os)) × Below 4 (own_ops q os)
    go true e =
        let m : Below 4 (op_of o ∷ own_ops q os) = subst (Below 4) (own_mine q o os e) b in (
          ap (λ (l : List ℕ). l ++ own_ops q os) (moved_mine q o s e ∙ operate_step s (op_of o) m.0)
              ∙ append_assoc s (op_of o ∷ []) (own_ops q os)
              ∙ ap (λ (l : List ℕ). s ++ l) (sym (own_mine q o os e)),
          m.1,
        )
    go false e = (
      ap (λ (l : List ℕ). l ++ own_ops q os) (moved_other q o s e) ∙ ap (λ (l : List ℕ). s ++ l) (sym (own_other q o os e)),
      subst (Below 4) (own_other q o os e) b,
    )

-- steps alone have a table that is large enough at every moment if it is in the end
pub room-steps : (r : ℕ) (c e : Corner) (b : ℕ) (ds es os : List ℕ) → Below 4 (own_ops 0 os) → Below 4 (own_ops 1 os) → length (needs_of c e (ds ++ own_ops 0 os) (es ++ own_ops 1 os)) ≤ r → pair_room_from r c e b ds es os ≡ Ok tt
room-steps r c e b ds es [] p q h = room_end r c e b ds es (let m = needs_mono c e ds es [] [] in omega arith)
room-steps r c e b ds es (o ∷ os) p q h =
    let x = moved-append 0 ds o os p in
    let y = moved-append 1 es o os q in
    ap₂ or_else (room_end r c e b ds es (let m = needs_mono c e ds es (own_ops 0 (o ∷ os)) (own_ops 1 (o ∷ os)) in omega arith))
    (room-steps r c e (suc b) (moved_by 0 ds o) (moved_by 1 es o) os x.1 y.1 (subst (λ (n : ℕ). n ≤ r) (ap length (sym (ap₂ (needs_of c e) x.0 y.0))) h))
