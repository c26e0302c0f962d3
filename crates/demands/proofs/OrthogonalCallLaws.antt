-- The answers of the call that outlines the orthogonal hull are given on their occasions and on no other; its promise taken apart.
-- Assumes nothing.
use Rattle.std.specs.Prelude.{Err, Ok}
use mathlib.Core.Bool.{Bool, true, false, false≢true}
use mathlib.Core.List.{List, [], ◌∷◌, ◌++◌}
use mathlib.Core.Logic.{◌↔◌}
use mathlib.Core.Path.{◌≡◌, refl, ap, sym, ◌∙◌, subst}
use Prim.Native.Nat.{ℕ, ◌*◌, ◌<◌, ◌≤◌}
use native.Mathlib.Decide.{dec_lt}
use native.Mathlib.Nat.{mul-le-mul}
use native.Mathlib.Omega.{arith}
use lib.Dec.{ltb}
use lib.ListN.{length, drop}
use Rattle.orthogonal.specs.Answers.{Orthogonal}
use Rattle.answer.specs.Answers.{Judged}
use Rattle.lists.proofs.BoolLaws.{unfit}
use Rattle.answer.specs.declared.{Refusal.Refusal, Refusal.TheVariants.GridSize, Refusal.TheVariants.StartRange, Refusal.TheVariants.TooMany, Refusal.TheVariants.ChainRoom}
use Rattle.answer.specs.Limits.{most_input, most_steps, Near, start_fits}
use Rattle.answer.specs.Refusal.{when}
use Rattle.answer.proofs.RefusalLaws.{clear}
use Rattle.answer.proofs.StartLaws.{fits_near, near_fits}
use Rattle.grid.specs.declared.Corner.{Corner}
use Rattle.answer.specs.Listed.{laid_if}
use Rattle.room.specs.Room.{as_room_judged}
use Rattle.room.proofs.RoomLaws.{good_room}
use Rattle.row_laws.proofs.CallLaws.{good_steps}
use Rattle.orthogonal.specs.declared.{Enclosed.Enclosed}
use Rattle.orthogonal.specs.Call.{grid_fits, OutlinesHull, on_grid_judged, enclosed_of, orthogonal_of, orthogonal_judged, OrthogonalCall}
use Rattle.orthogonal_laws.proofs.OutlineLaws.{outline_some}
use Rattle.orthogonal_laws.proofs.BoxLaws.{hull_short}
use Rattle.orthogonal_laws.proofs.LengthLaws.{inside_few}
use Rattle.orthogonal_laws.proofs.CallLaws.{hull_outlines, on_grid_good, on_grid_many, on_grid_range, on_grid_size, on_grid_room, grid_within, within_grid, refused_call, short_call, outlined_call, orthogonal_call_one}
use Rattle.demands.specs.GivenRoom.{GivenRoom}
use Rattle.demands.specs.GivenOrthogonal.{GridSized, GivenOrthogonal}
use Rattle.demands.specs.GivenOrthogonal as given
use Rattle.demands.proofs.RoomCallLaws.{room-when}

-- ---- a grid size

fits_sized : (g : ℕ) → grid_fits g ≡ true → GridSized g
fits_sized g e = let k = grid_within g e in record { least = k.0; most = k.1 }

sized_fits : (g : ℕ) → GridSized g → grid_fits g ≡ true
sized_fits g k = within_grid g k.least k.most

-- ---- the call

module _ (s : Corner) (ds : List ℕ) (g : ℕ) where
  -- what is accepted has an outline of its hull
  accepted_outline : on_grid_judged s ds g ≡ Ok tt → (start : Corner) × (steps : List ℕ) × OutlinesHull s ds g start steps
  accepted_outline e =
      let k = on_grid_good s ds g e in
      outline_some s ds (good_room s ds k.0).room (good_steps s ds k.0).0 g (grid_within g k.1).0

  module _ (before : List ℕ) where
    -- every call has an answer
    pub orthogonal_answers : (r : Orthogonal) × (after : List ℕ) × OrthogonalCall s ds g before r after
    orthogonal_answers = by (on_grid_judged s ds g) refl
      where
        by : (j : Judged) → on_grid_judged s ds g ≡ j → (r : Orthogonal) × (after : List ℕ) × OrthogonalCall s ds g before r after
        by (Err q) e = (Err q, before, refused_call s ds g before q e)
        by (Ok _) e =
            let w = accepted_outline e in
            elim (dec_lt (length before) (length w.1)) [
              | yes h ↦ (Err ChainRoom, before, short_call s ds g before w.0 w.1 e w.2 h)
              | no h ↦ (Ok (enclosed_of w.0 w.1), w.1 ++ drop (length w.1) before, outlined_call s ds g before w.0 w.1 e w.2 (omega arith))
            ]

    -- each answer on its occasion has its call
    given_call : (a : Orthogonal) → GivenOrthogonal s ds g (length before) a → (after : List ℕ) × OrthogonalCall s ds g before a after
    given_call _ (given.too_many h) = (before, refused_call s ds g before TooMany (on_grid_many s ds g h))
    given_call _ (given.start_range h f) = (before, refused_call s ds g before StartRange (on_grid_range s ds g h (unfit (start_fits s) (fits_near s) f)))
    given_call _ (given.grid_size z f) = (before, refused_call s ds g before GridSize (on_grid_size s ds g z.few (near_fits s z.start) (unfit (grid_fits g) (fits_sized g) f)))
    given_call _ (given.refused q z k) = (before, refused_call s ds g before q (on_grid_room s ds g (sized_fits g z) ∙ (room-when s ds (Err q)).1 k))
    given_call _ (given.chain_room z k start steps o h) = (before, short_call s ds g before start steps (on_grid_room s ds g (sized_fits g z) ∙ (room-when s ds (Ok tt)).1 k) o h)
    given_call _ (given.outlined z k start steps o h) = (steps ++ drop (length steps) before, outlined_call s ds g before start steps (on_grid_room s ds g (sized_fits g z) ∙ (room-when s ds (Ok tt)).1 k) o h)

    -- and there always is one
    some_given : (a : Orthogonal) × GivenOrthogonal s ds g (length before) a
    some_given = by_many (dec_lt most_input (length ds))
      where
        by-room : GridSized g → (j : Judged) → as_room_judged s ds ≡ j → (a : Orthogonal) × GivenOrthogonal s ds g (length before) a
        by-room z (Err q) e = (Err q, given.refused q z ((room-when s ds (Err q)).0 e))
        by-room z (Ok _) e =
            let w = accepted_outline (on_grid_room s ds g (sized_fits g z) ∙ e) in
            let k = (room-when s ds (Ok tt)).0 e in
            elim (dec_lt (length before) (length w.1)) [
              | yes h ↦ (Err ChainRoom, given.chain_room z k w.0 w.1 w.2 h)
              | no h ↦ (Ok (enclosed_of w.0 w.1), given.outlined z k w.0 w.1 w.2 (omega arith))
            ]

        by_grid : length ds ≤ most_input → Near s → (b : Bool) → grid_fits g ≡ b → (a : Orthogonal) × GivenOrthogonal s ds g (length before) a
        by_grid h n true e = by-room (fits_sized g e) (as_room_judged s ds) refl
        by_grid h n false e = (Err GridSize, given.grid_size (record { few = h; start = n }) (λ z. false≢true (sym e ∙ sized_fits g z)))

        by-start : length ds ≤ most_input → (b : Bool) → start_fits s ≡ b → (a : Orthogonal) × GivenOrthogonal s ds g (length before) a
        by-start h true e = by_grid h (fits_near s e) (grid_fits g) refl
        by-start h false e = (Err StartRange, given.start_range h (λ n. false≢true (sym e ∙ near_fits s n)))

        by_many : Dec (most_input < length ds) → (a : Orthogonal) × GivenOrthogonal s ds g (length before) a
        by_many (yes h) = (Err TooMany, given.too_many h)
        by_many (no h) = by-start (below h) (start_fits s) refl
          where
            below : (most_input < length ds → ⊥) → length ds ≤ most_input
            below h = elim (dec_lt most_input (length ds)) [ yes l ↦ absurd (h l) | no l ↦ omega arith ]

    module _ {r : Orthogonal} {after : List ℕ} (w : OrthogonalCall s ds g before r after) where
      pub orthogonal_when : (a : Orthogonal) → r ≡ a ↔ GivenOrthogonal s ds g (length before) a
      orthogonal_when a =
          let x = some_given in
          let same : (a : Orthogonal) → GivenOrthogonal s ds g (length before) a → r ≡ a = λ a k. (orthogonal_call_one s ds g before w (given_call a k).1).0 in
          (λ e. subst (GivenOrthogonal s ds g (length before)) (sym (same x.0 x.1) ∙ e) x.1, same a)

    -- a room with a grid size, and a buffer as long as its chain
    pub orthogonal_enough : {r : Orthogonal} {after : List ℕ} → OrthogonalCall s ds g before r after → GridSized g → GivenRoom s ds (Ok tt) → length ds ≤ length before → (h : Enclosed) × (r ≡ Ok h)
    orthogonal_enough w z k h =
        let e = (room-when s ds (Ok tt)).1 k in
        let o = accepted_outline (on_grid_room s ds g (sized_fits g z) ∙ e) in
        let n = hull_short g z.least s ds (good_room s ds e).room (good_steps s ds e).0 o.0 o.1 o.2 in
        (enclosed_of o.0 o.1, (orthogonal_when w (Ok (enclosed_of o.0 o.1))).1 (given.outlined z k o.0 o.1 o.2 (omega (arith, n, h))))

    refused_outlined : (q : Refusal) (h : Enclosed) → Err q ≡ Ok h → ⊥
    refused_outlined q h f = let z : ◌≡◌ {A = ℕ} 0 1 = cc in omega arith

    module _ {after : List ℕ} where
      pub orthogonal_untouched : (q : Refusal) → OrthogonalCall s ds g before (Err q) after → after ≡ before
      orthogonal_untouched q w = by (orthogonal_judged s ds g (length before) (length w.steps)) refl
        where
          by : (j : Judged) → orthogonal_judged s ds g (length before) (length w.steps) ≡ j → after ≡ before
          by (Ok _) e = absurd (refused_outlined q (enclosed_of w.start w.steps) (w.answer ∙ ap (λ (j : Judged). orthogonal_of j w.start w.steps) e))
          by (Err x) e = w.buffer ∙ ap (λ (j : Judged). laid_if j w.steps before) e

      -- what is outlined is not refused
      outlined_good : (h : Enclosed) → (w : OrthogonalCall s ds g before (Ok h) after) → orthogonal_judged s ds g (length before) (length w.steps) ≡ Ok tt
      outlined_good h w = by (orthogonal_judged s ds g (length before) (length w.steps)) refl
        where
          by : (j : Judged) → orthogonal_judged s ds g (length before) (length w.steps) ≡ j → j ≡ Ok tt
          by (Ok _) e = refl
          by (Err x) e = absurd (refused_outlined x h (sym (w.answer ∙ ap (λ (j : Judged). orthogonal_of j w.start w.steps) e)))

      on_grid : (h : Enclosed) → (w : OrthogonalCall s ds g before (Ok h) after) → on_grid_judged s ds g ≡ Ok tt
      on_grid h w = (clear (on_grid_judged s ds g ∷ when (ltb (length before) (length w.steps)) ChainRoom ∷ []) (outlined_good h w)).0

      pub orthogonal_written : (h : Enclosed) → OrthogonalCall s ds g before (Ok h) after → (start : Corner) × (steps : List ℕ) × OutlinesHull s ds g start steps × (h ≡ enclosed_of start steps) × (after ≡ steps ++ drop (length steps) before)
      orthogonal_written h w =
          let e = outlined_good h w in (
            w.start,
            w.steps,
            w.outline (on_grid h w),
            same (enclosed_of w.start w.steps) (w.answer ∙ ap (λ (j : Judged). orthogonal_of j w.start w.steps) e),
            w.buffer ∙ ap (λ (j : Judged). laid_if j w.steps before) e,
          )
        where
          same : (k : Enclosed) → ◌≡◌ {A = Orthogonal} (Ok h) (Ok k) → h ≡ k
          same k f = cc

      -- how many steps and blocks there can be
      pub orthogonal_most : (h : Enclosed) → OrthogonalCall s ds g before (Ok h) after → (h.steps ≤ most_steps) × (4 * h.blocks ≤ most_steps * most_steps)
      orthogonal_most h w =
          let k = on_grid_good s ds g (on_grid h w) in
          let r = orthogonal_written h w in
          let n = hull_short g (grid_within g k.1).0 s ds (good_room s ds k.0).room (good_steps s ds k.0).0 r.0 r.1 r.2 in
          let m : length r.1 ≤ most_steps = let b = (good_steps s ds k.0).1 in omega (arith, n, b) in
          let f = inside_few r.0 r.1 (hull_outlines r.2).room.closed in
          let q = mul-le-mul m m in
          (omega (arith, m, ap (λ (x : Enclosed). x.steps) r.3), omega (arith, f, q, ap (λ (x : Enclosed). x.blocks) r.3))
