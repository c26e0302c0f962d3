-- Refusal 7: a table that is large enough for all of a walk is large enough at each step, and after the last operation it was. So
-- the surviving steps of an accepted record are accepted alone. Assumes nothing.
use Rattle.std.specs.Prelude.{Err, Ok}
use mathlib.Core.Bool.{false}
use mathlib.Core.List.{List, [], ◌∷◌, ◌++◌, append_assoc, append-nil}
use mathlib.Core.Path.{◌≡◌, refl, ap, ◌∙◌}
use Prim.Native.Nat.{ℕ, suc, ◌*◌, ◌<◌, ◌≤◌, pred}
use native.Mathlib.Omega.{arith}
use borrow.Author.Tests.{ltb-false, eq-eqb, lt-ltb, le-ltb}
use lib.Dec.{ltb}
use lib.ListN.{length}
use Rattle.answer.specs.declared.Refusal.TheVariants.{NoRoom}
use Rattle.grid.specs.declared.Corner.{Corner}
use Rattle.grid.specs.Grid.{corners_from}
use Rattle.lists.specs.Lists.{Below}
use Rattle.tree.specs.Nodes.{nodes_of}
use Rattle.steps.specs.Operations.{operate, survivors_from, survivors, Walkable}
use Rattle.layout.specs.Marks.{mark_words}
use Rattle.layout.specs.Table.{records_in}
use Rattle.answer.proofs.RefusalLaws.{clear_first, when_good, or_else_good}
use Rattle.tree.proofs.NodeLaws.{nodes_mono}
use Rattle.steps.proofs.SurvivorLaws.{operate_step, survivors-steps, walkable_survivors, steps_accepted, length-survivors}
use Rattle.answer.proofs.StartLaws.{near_fits}
use Rattle.answer.specs.Limits.{most_input}
use Rattle.walk.specs.Walk.{room_from, walk_judgements, walk_judged, room_at}
use Rattle.walk.proofs.JudgedLaws.{walk_fits}
use Rattle.walk.proofs.CallCases as cases

-- the nodes that a walk needs
abbrev needs : Corner → List ℕ → ℕ
needs c ds = length (nodes_of (corners_from c ds))

-- more nodes than records: refused here
pub room_full : (r : ℕ) (c : Corner) (k : ℕ) (s os : List ℕ) → r < needs c s → room_from r c k s os ≡ Err (NoRoom (pred k))
room_full r c k s [] h = rw (lt-ltb r (needs c s) h)
room_full r c k s (o ∷ os) h = rw (lt-ltb r (needs c s) h)

-- enough records: what is left decides
pub room_fits : (r : ℕ) (c : Corner) (k : ℕ) (s : List ℕ) (o : ℕ) (os : List ℕ) → needs c s ≤ r → room_from r c k s (o ∷ os) ≡ room_from r c (suc k) (operate s o) os
room_fits r c k s o os h = rw (le-ltb r (needs c s) h)

pub room_end : (r : ℕ) (c : Corner) (k : ℕ) (s : List ℕ) → needs c s ≤ r → room_from r c k s [] ≡ Ok tt
room_end r c k s h = rw (le-ltb r (needs c s) h)

room-steps : (r : ℕ) (c : Corner) (k : ℕ) (s ds : List ℕ) → Below 4 ds → needs c (s ++ ds) ≤ r → room_from r c k s ds ≡ Ok tt
room-steps r c k s [] b h = room_end r c k s (rw (append-nil s) at h)
room-steps r c k s (d ∷ ds) b h =
    let e : operate s d ≡ s ++ (d ∷ []) = operate_step s d b.0 in
    let g : needs c ((s ++ (d ∷ [])) ++ ds) ≤ r = rw (append_assoc s (d ∷ []) ds) h in
    room_fits r c k s d ds (omega (arith, h, nodes_mono c s (d ∷ ds)))
    ∙ ap (λ (l : List ℕ). room_from r c (suc k) l ds) e
    ∙ room-steps r c (suc k) (s ++ (d ∷ [])) ds b.1 g

pub room-last : (r : ℕ) (c : Corner) (k : ℕ) (s os : List ℕ) → room_from r c k s os ≡ Ok tt → needs c (survivors_from s os) ≤ r
room-last r c k s [] e = ltb-false r (needs c s) (when_good (ltb r (needs c s)) (NoRoom (pred k)) e)
room-last r c k s (o ∷ os) e = room-last r c (suc k) (operate s o) os (or_else_good (room_at r c k s) (room_from r c (suc k) (operate s o) os) e).1

-- an accepted record's surviving steps are accepted alone, in a table of the same size, and they survive
pub alone : (c : Corner) (os : List ℕ) (words m k : ℕ) → walk_judged c os words m k ≡ Ok tt
    → (survivors (survivors os) ≡ survivors os) × (walk_judged c (survivors os) words (mark_words * length (survivors os)) (length (survivors os)) ≡ Ok tt)
alone c os words m k e =
    let ds = survivors os in
    let h = walk_fits c os words m k e in
    let s : Walkable ds = walkable_survivors 0 [] os (record { digits = tt; few = omega arith }) h.0.fine in
    let b : ltb most_input (length ds) ≡ false = le-ltb most_input (length ds) (omega (arith, h.0.few, length-survivors [] os)) in
    let r : room_from (records_in words) c 0 [] ds ≡ Ok tt = room-steps (records_in words) c 0 [] ds s.digits (room-last (records_in words) c 0 [] os h.1) in (
      survivors-steps [] ds s.digits,
      clear_first (walk_judgements c ds words (mark_words * length ds) (length ds)) (
        rw b,
        (rw h.0.table, (rw (eq-eqb (mark_words * length ds) (mark_words * length ds) refl, eq-eqb (length ds) (length ds) refl), (rw (near_fits c h.0.start), (steps_accepted 0 0 ds s.digits (omega (arith, s.few)), (r, tt))))),
      ),
    )
