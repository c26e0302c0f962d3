-- What is asked of the outer outline of a walk (RULES 15), as theorems about the definition, `OutlineIs`, and about the call's
-- promise, `OutlineCall`. Each is proved by naming a law.
-- Assumes nothing.
use Rattle.std.specs.Prelude.{Err, Ok}
use mathlib.Core.Bool.{true}
use mathlib.Core.List.{List, [], ◌∷◌, ◌++◌, Memᴰ}
use mathlib.Core.Logic.{◌⊎◌, ◌↔◌}
use mathlib.Core.Path.{◌≡◌, ap}
use Prim.Native.Nat.{ℕ, ◌*◌, ◌<◌, ◌≤◌}
use lib.ListN.{length, drop}
use Rattle.answer.specs.Answers.{Counted}
use Rattle.lists.specs.Lists.{Distinct, Below}
use Rattle.answer.specs.declared.{Refusal.Refusal}
use Rattle.answer.specs.Limits.{most_steps}
use Rattle.answer.specs.Refusal.{refusal_number, refusal_place}
use Rattle.answer.specs.Words.{counted_words}
use Rattle.grid.specs.declared.{Corner.Corner, Panel.Panel}
use Rattle.grid.specs.Grid.{stepped, corners_from, end_from, corner_at, legs_from, Begins}
use Rattle.trace.specs.Verdict.{IsRoom}
use Rattle.panels.specs.Inside.{Inside, left_of, right_of, EachStep}
use Rattle.panels.specs.Moved.{started_at, backward}
use Rattle.outline.specs.Outline.{walked, home_of, OutlineIs}
use Rattle.outline.specs.Call.{OutlineCall}
use Rattle.outline.proofs.CallLaws as call_laws
use Rattle.outline.specs.Computed.{outline_of}
use Rattle.outline_laws.specs.Different.{different}
use Rattle.outline_laws.proofs.OutlineLaws as outline_laws
use Rattle.outline_laws.proofs.FewLaws as few_laws
use Rattle.outline_laws.proofs.HomeLaws as home_laws
use Rattle.outline_laws.proofs.BetweenLaws as between_laws
use Rattle.outline_laws.proofs.CallLaws as outline_call_laws
use Rattle.outline_room_laws.specs.Outside.{Outside}
use Rattle.outline_room_laws.proofs.OutsideLaws as outside_laws
use Rattle.outline_room_laws.proofs.RoomLaws as room_laws
use Rattle.outline_room_laws.proofs.SideLaws as side_laws
use Rattle.outline_room_laws.proofs.WholeLaws as whole_laws
use Rattle.demands.specs.GivenOutline.{GivenOutline}
use Rattle.demands.proofs.OutlineCallLaws as given_laws

-- every walk has an outline
pub outline_exists : (s : Corner) (ds : List ℕ) → (es : List ℕ) × OutlineIs s ds es
outline_exists s ds = (outline_of s ds, outline_laws.outline_of-is s ds)

-- and only one
pub outline_is_one : {s : Corner} {ds es fs : List ℕ} → OutlineIs s ds es → OutlineIs s ds fs → es ≡ fs
outline_is_one = outline_laws.outline_is_one

-- "a walk without steps gives the empty outline"
pub outline_empty : (s : Corner) → OutlineIs s [] []
outline_empty = outline_laws.empty_is

-- "the lowest of the leftmost corners": a corner of the walk, and none comes before it
pub home_visited : (s : Corner) (ds : List ℕ) → Memᴰ (home_of s ds) (corners_from s ds)
home_visited = home_laws.home_visited

pub home_least : (s : Corner) (ds : List ℕ) (q : Corner) → Memᴰ q (corners_from s ds) → Begins (home_of s ds) q
home_least = home_laws.home_least

module _ {s : Corner} {ds es : List ℕ} (o : OutlineIs s ds es) where
  -- it ends where it began
  pub outline_closed : end_from (home_of s ds) es ≡ home_of s ds
  outline_closed = outline_laws.outline_closed o

  -- its digits are steps
  pub outline_digits : Below 4 es
  outline_digits = outline_laws.outline_below o

  -- each of its steps goes along an edge that was walked, in that sense or in the other
  pub outline_walked : (p q : Corner) → Memᴰ (p, q) (legs_from (home_of s ds) es)
      → Memᴰ (p, q) (legs_from s ds) ⊎ Memᴰ (q, p) (legs_from s ds)
  outline_walked = few_laws.outline_walked o

  -- no edge is used twice in one direction
  pub outline_once : Distinct (legs_from (home_of s ds) es)
  outline_once = few_laws.outline_once o

  -- so it has at most twice as many steps as the walk has different edges
  pub outline_few : length es ≤ 2 * length (different s ds)
  outline_few = few_laws.outline_few o

  -- the panel on the right of each of its steps lies outside the walk
  pub outline_outside : EachStep (λ d q. Outside s ds (right_of d q)) (home_of s ds) es
  outline_outside = outside_laws.outline_outside o

  -- "the outside edge", and the whole of it: the outline passes an edge in a direction exactly if the edge was walked and the
  -- panel on its right lies outside; by `outline_once` it does so once
  pub outline_whole : (p : Corner) (d : ℕ) → d < 4
      → Memᴰ (p, stepped d p) (legs_from (home_of s ds) es) ↔ ((walked s ds p d ≡ true) × Outside s ds (right_of d p))
  outline_whole = whole_laws.outline_whole o

  -- a panel lies outside the walk exactly if it is not inside the outline
  pub outside_exactly : (p : Panel) → Outside s ds p ↔ (Inside (home_of s ds) es p → ⊥)
  outside_exactly = whole_laws.outside_exactly o

  -- what lies inside does not count: a walk along all edges of the outline, and along none that the first walk did not have, has
  -- the same outline
  pub outline_between : (s' : Corner) (ds' : List ℕ) → 0 < length ds
      → ((p : Corner) (d : ℕ) → walked (home_of s ds) es p d ≡ true → walked s' ds' p d ≡ true)
      → ((p : Corner) (d : ℕ) → walked s' ds' p d ≡ true → walked s ds p d ≡ true) → OutlineIs s' ds' es
  outline_between s' ds' = between_laws.outline_between s' ds' o

  -- so the walked edges alone decide: not where a walk starts, nor in which order and how often it uses them
  pub outline_same : (s' : Corner) (ds' : List ℕ) → 0 < length ds
      → ((p : Corner) (d : ℕ) → walked s ds p d ≡ true → walked s' ds' p d ≡ true)
      → ((p : Corner) (d : ℕ) → walked s' ds' p d ≡ true → walked s ds p d ≡ true) → OutlineIs s' ds' es
  outline_same s' ds' = between_laws.outline_same s' ds' o

  -- and an outline is its own outline
  pub outline_again : 0 < length ds → OutlineIs (home_of s ds) es es
  outline_again = between_laws.outline_again o

-- what lies outside a closed walk is not inside it
pub outside_not_inside : (s : Corner) (ds : List ℕ) → end_from s ds ≡ s → (p : Panel) → Outside s ds p → Inside s ds p → ⊥
outside_not_inside = outside_laws.outside_not_inside

module _ (s : Corner) (ds : List ℕ) (r : IsRoom s ds) (b : Below 4 ds) {es : List ℕ} (o : OutlineIs s ds es) where
  -- the outline of a room, walked either way from any of its corners, is the room from the lowest of its leftmost corners,
  -- forwards or backwards
  pub room_outline : (j : ℕ) × (j < length ds) × (corner_at s ds j ≡ home_of s ds)
      × ((es ≡ started_at j ds) ⊎ (es ≡ backward (started_at j ds)))
  room_outline = room_laws.room_outline s ds r b o

  -- counterclockwise: of the two panels beside each of its steps the left one is inside the room, and the right one is not
  pub room_counterclockwise : EachStep (λ d q. Inside s ds (left_of d q) × (Inside s ds (right_of d q) → ⊥)) (home_of s ds) es
  room_counterclockwise = side_laws.room-left s ds r b o

-- every start, chain and buffer has an answer and a state of the buffer
pub outline_answers : (s : Corner) (ds before : List ℕ) → (r : Counted) × (after : List ℕ) × OutlineCall s ds before r after
outline_answers = outline_call_laws.outline_call_some

-- and only one
pub outline_call_one : {s : Corner} {ds before after₁ after₂ : List ℕ} {r₁ r₂ : Counted} → OutlineCall s ds before r₁ after₁
    → OutlineCall s ds before r₂ after₂ → (r₁ ≡ r₂) × (after₁ ≡ after₂)
outline_call_one = outline_call_laws.outline_call_one

module _ {s : Corner} {ds before after : List ℕ} {r : Counted} (w : OutlineCall s ds before r after) where
  -- "1, 10, 4 and 6 for start and chain; then 11": each exactly on its occasion
  pub outline_refused_exactly : (q : Refusal)
      → r ≡ Err q ↔ GivenOutline s ds (length before) (length w.steps) (Err q)
  outline_refused_exactly = given_laws.refused_when w

  -- and acceptance exactly on its own, with the number of steps
  pub outline_written_exactly : r ≡ Ok (length w.steps) ↔ GivenOutline s ds (length before) (length w.steps) (Ok tt)
  outline_written_exactly = given_laws.written_when w

  -- the numbers of each
  pub outline_refused_words : (q : Refusal) → GivenOutline s ds (length before) (length w.steps) (Err q)
      → counted_words r ≡ refusal_number q ∷ refusal_place q ∷ 0 ∷ []
  outline_refused_words q g = ap counted_words ((outline_refused_exactly q).1 g)

  pub outline_written_words : GivenOutline s ds (length before) (length w.steps) (Ok tt)
      → counted_words r ≡ 0 ∷ 0 ∷ length w.steps ∷ []
  outline_written_words g = ap counted_words (outline_written_exactly.1 g)

module _ (s : Corner) (ds before : List ℕ) {after : List ℕ} where
  -- "nothing written"
  pub outline_untouched : (q : Refusal) → OutlineCall s ds before (Err q) after → after ≡ before
  outline_untouched = call_laws.call_untouched

  -- "the length is answered; bytes after it are unchanged"
  pub outline_written : (n : ℕ) (w : OutlineCall s ds before (Ok n) after)
      → (n ≡ length w.steps) × (after ≡ w.steps ++ drop (length w.steps) before)
  outline_written = given_laws.call_written s ds before

  -- 32,768 bytes are enough
  pub outline_most : (n : ℕ) → OutlineCall s ds before (Ok n) after → n ≤ 2 * most_steps
  outline_most = given_laws.call_most s ds before
