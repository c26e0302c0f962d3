-- The refusals of the call, what is accepted, and that the call has one answer and leaves one buffer.
-- Assumes nothing.
use Rattle.std.specs.Prelude.{Err, Ok}
use mathlib.Core.Bool.{Bool, true, false, not, ◌&&◌}
use mathlib.Core.List.{List, [], ◌∷◌, ◌++◌}
use mathlib.Core.Logic.{◌↔◌, ⊎_elim}
use mathlib.Core.Path.{◌≡◌, refl, ap, ap₂, sym, ◌∙◌, subst}
use Prim.Native.Nat.{ℕ, ◌%◌, ◌<◌, ◌≤◌}
use borrow.Author.Tests.{eqb-true, eq-eqb, lt-ltb, le-ltb}
use lib.Dec.{T, leb, ltb, leb→le, le→leb}
use lib.IntN.{pos}
use lib.ListN.{length, drop}
use Rattle.orthogonal.specs.Answers.{Orthogonal}
use Rattle.answer.specs.Answers.{Judged}
use Rattle.int_laws.proofs.LinearLaws.{zarith, neg_nat}
use Rattle.answer.specs.declared.{Refusal.Refusal, Refusal.TheVariants.TooMany, Refusal.TheVariants.StartRange, Refusal.TheVariants.GridSize, Refusal.TheVariants.NotRoom, Refusal.TheVariants.ChainRoom}
use Rattle.answer.specs.Limits.{most_input, start_fits}
use Rattle.answer.specs.Refusal.{when, or_else, first_of}
use Rattle.answer.proofs.RefusalLaws.{refused_not_good, clear, clear_first, when_good, or_else-right}
use Rattle.lists.proofs.BoolLaws.{not-false}
use Rattle.lists.proofs.GatherLaws.{and_left, and_right}
use Rattle.grid.specs.declared.{Corner.Corner, Panel.Panel}
use Rattle.answer.specs.Listed.{laid_if}
use Rattle.steps.specs.Chain.{chain_judged}
use Rattle.room.specs.Room.{is_room, as_room_judged}
use Rattle.room.proofs.RoomLaws.{is_room_exactly, judged_four}
use Rattle.trace.specs.Verdict.{area_of}
use Rattle.panels.specs.Inside.{edges_beside, Inside, inside, panels_inside}
use Rattle.room_laws.proofs.RoomLaws.{room-counts, room_sign}
use Rattle.orthogonal.specs.Call.{most_grid, grid_fits, OutlinesHull, on_grid_judged, orthogonal_judged, enclosed_of, orthogonal_of, OrthogonalCall}
use Rattle.orthogonal_laws.proofs.HullLaws.{hull_one}
use Rattle.orthogonal_laws.proofs.OneLaws.{Outlines, outlines_one}

-- ---- the outline of a hull

module _ {s : Corner} {ds : List ℕ} {g : ℕ} {start : Corner} {steps : List ℕ} (o : OutlinesHull s ds g start steps) where
  pub hull_outlines : Outlines start steps
  hull_outlines = record { digits = o.digits; room = (is_room_exactly start steps).0 o.room; home = o.home; left = o.left }

-- its area is the number of blocks
pub outline_area : {s : Corner} {ds : List ℕ} {g : ℕ} (start : Corner) (steps : List ℕ) → OutlinesHull s ds g start steps → area_of start steps ≡ pos (panels_inside start steps)
outline_area start steps o =
    let r = (hull_outlines o).room in
    ⊎_elim (λ k. k.1) (λ k. let h = (room_sign start steps r).0.1 o.left in absurd (omega (zarith, h, k.1, neg_nat (pos (panels_inside start steps))))) (room-counts start steps r)

-- there is only one
pub outlines_hull_one : {s : Corner} {ds : List ℕ} {g : ℕ} (start : Corner) (steps : List ℕ) (start' : Corner) (steps' : List ℕ) → OutlinesHull s ds g start steps → OutlinesHull s ds g start' steps' → (start ≡ start') × (steps ≡ steps')
outlines_hull_one start steps start' steps' o o' = outlines_one start steps start' steps' (hull_outlines o) (hull_outlines o') same
  where
    same : (p : Panel) → Inside start steps p ↔ Inside start' steps' p
    same p =
        let e : inside start steps p ≡ inside start' steps' p = hull_one o.hull o'.hull p in
        (λ i. eqb-true (edges_beside start' steps' p % 2) 1 (sym e ∙ eq-eqb (edges_beside start steps p % 2) 1 i), λ i. eqb-true (edges_beside start steps p % 2) 1 (e ∙ eq-eqb (edges_beside start' steps' p % 2) 1 i))

-- ---- the refusals in their order

-- 1 and 10, then 22, then those of a room
on_grid_split : (s : Corner) (ds : List ℕ) (g : ℕ) → on_grid_judged s ds g ≡ first_of (when (ltb most_input (length ds)) TooMany ∷ when (not (start_fits s)) StartRange ∷ when (not (grid_fits g)) GridSize ∷ as_room_judged s ds ∷ [])
on_grid_split s ds g =
    by (when (ltb most_input (length ds)) TooMany) (when (not (start_fits s)) StartRange) (when (not (grid_fits g)) GridSize) (chain_judged 0 ds) (when (not (is_room s ds)) NotRoom)
    ∙ ap (λ (j : Judged). first_of (when (ltb most_input (length ds)) TooMany ∷ when (not (start_fits s)) StartRange ∷ when (not (grid_fits g)) GridSize ∷ j ∷ [])) (sym (judged_four s ds))
  where
    by : (a b c d e : Judged) → first_of (a ∷ b ∷ c ∷ d ∷ e ∷ []) ≡ first_of (a ∷ b ∷ c ∷ first_of (a ∷ b ∷ d ∷ e ∷ []) ∷ [])
    by (Err q) b c d e = refl
    by (Ok _) (Err q) c d e = refl
    by (Ok _) (Ok _) c d e = ap (or_else c) (sym (or_else-right (or_else d (or_else e (Ok tt)))))

-- each of them alone
module _ (s : Corner) (ds : List ℕ) (g : ℕ) where
  pub on_grid_many : most_input < length ds → on_grid_judged s ds g ≡ Err TooMany
  on_grid_many h = rw (lt-ltb most_input (length ds) h)

  pub on_grid_range : length ds ≤ most_input → start_fits s ≡ false → on_grid_judged s ds g ≡ Err StartRange
  on_grid_range h e = rw (le-ltb most_input (length ds) h, e)

  pub on_grid_size : length ds ≤ most_input → start_fits s ≡ true → grid_fits g ≡ false → on_grid_judged s ds g ≡ Err GridSize
  on_grid_size h e f = on_grid_split s ds g ∙ rw (le-ltb most_input (length ds) h, e, f)

  -- with a grid size, those of a room
  pub on_grid_room : grid_fits g ≡ true → on_grid_judged s ds g ≡ as_room_judged s ds
  on_grid_room e = four ∙ sym (judged_four s ds)
    where
      four : on_grid_judged s ds g ≡ first_of (when (ltb most_input (length ds)) TooMany ∷ when (not (start_fits s)) StartRange ∷ chain_judged 0 ds ∷ when (not (is_room s ds)) NotRoom ∷ [])
      four = ap (λ (b : Bool). first_of (when (ltb most_input (length ds)) TooMany ∷ when (not (start_fits s)) StartRange ∷ when (not b) GridSize ∷ chain_judged 0 ds ∷ when (not (is_room s ds)) NotRoom ∷ [])) e

-- what is accepted is a room, with a grid size
pub on_grid_good : (s : Corner) (ds : List ℕ) (g : ℕ) → on_grid_judged s ds g ≡ Ok tt → (as_room_judged s ds ≡ Ok tt) × (grid_fits g ≡ true)
on_grid_good s ds g e =
    let many = when (ltb most_input (length ds)) TooMany in
    let range = when (not (start_fits s)) StartRange in
    let other = when (not (is_room s ds)) NotRoom in
    let k = clear (many ∷ range ∷ when (not (grid_fits g)) GridSize ∷ chain_judged 0 ds ∷ other ∷ []) e in
    (judged_four s ds ∙ clear_first (many ∷ range ∷ chain_judged 0 ds ∷ other ∷ []) (k.0, (k.1.0, (k.1.1.1.0, k.1.1.1.1))), not-false (grid_fits g) (when_good (not (grid_fits g)) GridSize k.1.1.0))

pub grid_within : (g : ℕ) → grid_fits g ≡ true → (0 < g) × (g ≤ most_grid)
grid_within g e = (le_of 1 g (and_left (leb 1 g) (leb g most_grid) e), le_of g most_grid (and_right (leb 1 g) (leb g most_grid) e))
  where
    le_of : (a b : ℕ) → leb a b ≡ true → a ≤ b
    le_of a b e = leb→le a b (subst T (sym e) tt)

pub within_grid : (g : ℕ) → 0 < g → g ≤ most_grid → grid_fits g ≡ true
within_grid g h k = ap₂ ◌&&◌ (yes_le 1 g h) (yes_le g most_grid k)
  where
    yes_le : (a b : ℕ) → a ≤ b → leb a b ≡ true
    yes_le a b h = by (leb a b) (le→leb a b h)
      where
        by : (x : Bool) → T x → x ≡ true
        by true t = refl
        by false t = absurd t

module _ (s : Corner) (ds : List ℕ) (g room n : ℕ) where
  -- what is refused is so whatever the buffer
  orthogonal_refused : (q : Refusal) → on_grid_judged s ds g ≡ Err q → orthogonal_judged s ds g room n ≡ Err q
  orthogonal_refused q e = ap (λ (j : Judged). or_else j (or_else (when (ltb room n) ChainRoom) (Ok tt))) e

  -- and what is not, by its buffer alone
  orthogonal_last : on_grid_judged s ds g ≡ Ok tt → orthogonal_judged s ds g room n ≡ when (ltb room n) ChainRoom
  orthogonal_last e = ap (λ (j : Judged). or_else j (or_else (when (ltb room n) ChainRoom) (Ok tt))) e ∙ or_else-right (when (ltb room n) ChainRoom)

-- ---- the call

module _ (s : Corner) (ds : List ℕ) (g : ℕ) (before : List ℕ) where
  abbrev judged_by : List ℕ → Judged
  judged_by es = orthogonal_judged s ds g (length before) (length es)

  -- a refused call
  pub refused_call : (q : Refusal) → on_grid_judged s ds g ≡ Err q → OrthogonalCall s ds g before (Err q) before
  refused_call q e =
      let j = orthogonal_refused s ds g (length before) 0 q e in
      record {
        start = s;
        steps = [];
        outline = λ f. absurd (refused_not_good q (sym e ∙ f));
        answer = sym (ap (λ (k : Judged). orthogonal_of k s []) j);
        buffer = sym (ap (λ (k : Judged). laid_if k [] before) j);
      }

  module _ (start : Corner) (steps : List ℕ) (e : on_grid_judged s ds g ≡ Ok tt) (o : OutlinesHull s ds g start steps) where
    by-room : (b : Bool) → ltb (length before) (length steps) ≡ b → OrthogonalCall s ds g before (orthogonal_of (when b ChainRoom) start steps) (laid_if (when b ChainRoom) steps before)
    by-room b t =
        let j = orthogonal_last s ds g (length before) (length steps) e ∙ ap (λ (x : Bool). when x ChainRoom) t in
        record {
          start = start;
          steps = steps;
          outline = λ f. o;
          answer = sym (ap (λ (k : Judged). orthogonal_of k start steps) j);
          buffer = sym (ap (λ (k : Judged). laid_if k steps before) j);
        }

    -- a buffer that is too short
    pub short_call : length before < length steps → OrthogonalCall s ds g before (Err ChainRoom) before
    short_call h = by-room true (lt-ltb (length before) (length steps) h)

    -- and one that is not
    pub outlined_call : length steps ≤ length before → OrthogonalCall s ds g before (Ok (enclosed_of start steps)) (steps ++ drop (length steps) before)
    outlined_call h = by-room false (le-ltb (length before) (length steps) h)

  -- one answer, and one state of the buffer
  pub orthogonal_call_one : {r r' : Orthogonal} {after after' : List ℕ} → OrthogonalCall s ds g before r after → OrthogonalCall s ds g before r' after' → (r ≡ r') × (after ≡ after')
  orthogonal_call_one {r} {r'} {after} {after'} w w' = by (on_grid_judged s ds g) refl
    where
      by : (j : Judged) → on_grid_judged s ds g ≡ j → (r ≡ r') × (after ≡ after')
      by (Ok _) e =
          let k = outlines_hull_one w.start w.steps w'.start w'.steps (w.outline e) (w'.outline e) in (
            w.answer ∙ ap₂ (λ (c : Corner) (es : List ℕ). orthogonal_of (judged_by es) c es) k.0 k.1 ∙ sym w'.answer,
            w.buffer ∙ ap (λ (es : List ℕ). laid_if (judged_by es) es before) k.1 ∙ sym w'.buffer,
          )
      by (Err q) e =
          let a = orthogonal_refused s ds g (length before) (length w.steps) q e in
          let a' = orthogonal_refused s ds g (length before) (length w'.steps) q e in (
            w.answer ∙ ap (λ (k : Judged). orthogonal_of k w.start w.steps) a ∙ sym (w'.answer ∙ ap (λ (k : Judged). orthogonal_of k w'.start w'.steps) a'),
            w.buffer ∙ ap (λ (k : Judged). laid_if k w.steps before) a ∙ sym (w'.buffer ∙ ap (λ (k : Judged). laid_if k w'.steps before) a'),
          )
