-- What the three demands ask for, as theorems about the promises: `WalkIs` of the walk, `ConvertedBy` of the turns, `HullCall` of
-- the hull.
-- Each is proved by naming a law. Assumes nothing.
use Rattle.std.specs.Prelude.{Err, Ok}
use mathlib.Core.List.{List, [], ◌∷◌, ◌++◌, Memᴰ}
use mathlib.Core.Logic.{◌⊎◌, ◌↔◌}
use mathlib.Core.Path.{◌≡◌, ap}
use Prim.Native.Nat.{ℕ, suc, ◌+◌, ◌-◌, ◌*◌, ◌%◌, ◌<◌, ◌≤◌, pred}
use lib.IntN.{ℤ, pos, negsuc, neg_ℤ, nat_abs}
use lib.ListN.{length, get_or, take, drop, replicate}
use lib.Signed.{◌<ℤ◌}
use Rattle.answer.specs.Answers.{Answer, Counted, Judged}
use Rattle.answer.specs.declared.Facts.{Facts}
use Rattle.answer.specs.declared.Refusal.{Refusal}
use Rattle.answer.specs.declared.Refusal.TheVariants.{NoRoom}
use Rattle.answer.specs.declared.Verdict.{Verdict, TheVariants.ThereAndBack}
use Rattle.answer.specs.Limits.{most_steps, no_meeting, farthest, Near}
use Rattle.answer.specs.Refusal.{refusal_number, refusal_place}
use Rattle.answer.specs.Words.{facts_words, answer_words, counted_words, judged_words}
use Rattle.lists.specs.Lists.{sum_of, Distinct, Below}
use Rattle.grid.specs.declared.{Corner.Corner, Panel.Panel}
use Rattle.grid.specs.Grid.{corner, origin, corners_from, end_from, stepped, back, numbers}
use Rattle.grid.specs.Tree.{AncestorAt, root, WithinLevels, path_of}
use Rattle.steps.specs.Operations.{survivors}
use Rattle.steps.specs.Turns.{turn_of, turns_of, step_after, steps_of, ConvertedBy}
use Rattle.trace.specs.Meeting.{Meets, FirstMeets, visited_of}
use Rattle.trace.specs.Verdict.{VerdictSays, IsRoom, sweep_from, area_of}
use Rattle.tree.specs.Nodes.{nodes_of, ref_of, need_of, InUse, LinkedBy}
use Rattle.layout.specs.Marks.{mark_words, changes_in, changes_of}
use Rattle.layout.specs.Table.{width, records_in, word_at, edges_of, table_of}
use Rattle.walk.specs.Walk.{facts_of, WalkIs}
use Rattle.hull.specs.Hull.{Exposed, HullIs, Encloses}
use Rattle.hull.specs.Call.{HullCall}
use Rattle.panels.specs.{Edges.surplus_of, Box.panel_sum, Inside.panels_inside, Inside.ListsInside, Inside.InsideLeft, Inside.InsideRight}
use Rattle.hull_laws.proofs.CallLaws as hull_call_laws
use Rattle.hull_laws.proofs.HullLaws as hull_laws
use Rattle.hull_laws.proofs.OneLaws as one_laws
use Rattle.grid.proofs.ColourLaws as colour_laws
use Rattle.room_laws.proofs.RoomLaws as room_laws
use Rattle.trace.proofs.MeetingLaws as meeting_laws
use Rattle.trace.proofs.VerdictLaws as verdict_laws
use Rattle.trace.proofs.VisitLaws as visit_laws
use Rattle.tree.proofs.InUseLaws as in_use_laws
use Rattle.tree.proofs.LinkStepLaws as link_step_laws
use Rattle.tree.proofs.NodeLaws as node_laws
use Rattle.tree.proofs.StartLaws as start_laws
use Rattle.tree.proofs.OrderLaws as order_laws
use Rattle.tree_laws.proofs.CountLaws as count_laws
use Rattle.tree_laws.proofs.EdgeLaws as edge_laws
use Rattle.table_laws.proofs.DiffLaws as diff_laws
use Rattle.steps.proofs.TurnLaws as turn_laws
use Rattle.steps.proofs.TurnPromiseLaws as promise_laws
use Rattle.demands.specs.Moments.{steps_after, nodes_after, corners_after, visits_after, changes_at, sum_to, AtMostEight, FourAndStart, FourLessThree, Exceeds}
use Rattle.demands.specs.Given.{Faultless, NoRoomAfter, GivenWalk}
use Rattle.demands.specs.GivenTurns.{GivenTurns}
use Rattle.demands.specs.GivenHull.{GivenHull}
use Rattle.demands.specs.Record.{RecordSays}
use Rattle.demands.specs.Alone.{LentAlone}
use Rattle.demands.proofs.Area as area_page
use Rattle.demands.proofs.WalkLaws as walk_laws
use Rattle.demands.proofs.AcceptedLaws as accepted_laws
use Rattle.demands.proofs.BufferLaws as buffer_laws
use Rattle.demands.proofs.AloneLaws as alone_laws
use Rattle.demands.proofs.ChangedLaws as changed_laws
use Rattle.demands.proofs.CostLaws as cost_laws
use Rattle.demands.proofs.ReachedLaws as reached_laws
use Rattle.demands.proofs.CallLaws as call_laws
use Rattle.demands.proofs.DigitLaws as digit_laws

-- ---- Demand 1
-- "takes every byte string .. with every size of table and result buffer": there is an answer and a state of the buffers
pub walk_answers : (c : Corner) (os t ms ch : List ℕ)
    → (r : Answer) × (t' : List ℕ) × (ms' : List ℕ) × (ch' : List ℕ) × WalkIs c os t ms ch r t' ms' ch'
walk_answers = walk_laws.walk_is_some

-- and only one
pub walk_is_one : {c : Corner} {os t ms ch t₁ ms₁ ch₁ t₂ ms₂ ch₂ : List ℕ} {r₁ r₂ : Answer} → WalkIs c os t ms ch r₁ t₁ ms₁ ch₁
    → WalkIs c os t ms ch r₂ t₂ ms₂ ch₂
    → (r₁ ≡ r₂) × (t₁ ≡ t₂) × (ms₁ ≡ ms₂) × (ch₁ ≡ ch₂)
walk_is_one = walk_laws.walk_is_one

module _ {c : Corner} {os t ms ch t' ms' ch' : List ℕ} {r : Answer} (w : WalkIs c os t ms ch r t' ms' ch') where
  -- "an answer or a numbered refusal": each refusal exactly on its occasion, 1, 2, 3, 10, then 4, 5, 6 at the first faulty place,
  -- then 7
  pub refused_exactly : (q : Refusal) → r ≡ Err q ↔ GivenWalk c os (length t) (length ms) (length ch) (Err q)
  refused_exactly = walk_laws.refused_when w

  -- and acceptance exactly on its own, with the facts of the surviving steps
  pub accepted_exactly : r ≡ Ok (facts_of c (survivors os)) ↔ GivenWalk c os (length t) (length ms) (length ch) (Ok tt)
  accepted_exactly = walk_laws.accepted_when w

  -- the numbers of each: a refused answer holds number and place, and 0 in all other words; an accepted one 0 for both, and the
  -- facts
  pub refused_words : (q : Refusal) → GivenWalk c os (length t) (length ms) (length ch) (Err q)
      → answer_words r ≡ refusal_number q ∷ refusal_place q ∷ replicate 9 0
  refused_words q g = ap answer_words ((refused_exactly q).1 g)

  pub accepted_words : GivenWalk c os (length t) (length ms) (length ch) (Ok tt)
      → answer_words r ≡ facts_words (facts_of c (survivors os))
  accepted_words g = ap answer_words (accepted_exactly.1 g)

module _ {c : Corner} {os t ms ch t' ms' ch' : List ℕ} where
  -- "a refusal leaves the buffers untouched"
  pub refused_untouched : (q : Refusal) → (refusal_number q ≡ 7 → ⊥) → WalkIs c os t ms ch (Err q) t' ms' ch'
      → (t' ≡ t) × (ms' ≡ ms) × (ch' ≡ ch)
  refused_untouched = walk_laws.untouched

  -- "except that 'no room' leaves them all zero"
  pub no_room_zero : (i : ℕ) → WalkIs c os t ms ch (Err (NoRoom i)) t' ms' ch'
      → (t' ≡ replicate (length t) 0) × (ms' ≡ replicate (length ms) 0) × (ch' ≡ replicate (length ch) 0)
  no_room_zero = walk_laws.all_zero

module _ {c : Corner} {os t ms ch t' ms' ch' : List ℕ} {r : Answer} (w : WalkIs c os t ms ch r t' ms' ch') where
  -- "'no room' is given exactly when nothing else is wrong with the call and the walk at some moment needs more nodes than the
  -- table has records"
  pub no_room_exactly : ((i : ℕ) × (r ≡ Err (NoRoom i)))
      ↔ Faultless c os (length t) (length ms) (length ch)
      × ((k : ℕ) × (k ≤ length os) × Exceeds (nodes_after c os k) (records_in (length t)))
  no_room_exactly = walk_laws.no_room-when w

  -- its place is k - 1, where k operations are the fewest after which this is so
  pub no_room-place : (i : ℕ) → r ≡ Err (NoRoom i)
      ↔ Faultless c os (length t) (length ms) (length ch) × ((k : ℕ) × NoRoomAfter c os (records_in (length t)) k × (i ≡ pred k))
  no_room-place = walk_laws.no_room-at w

-- the same of the turns
pub turns_answer : (convert : List ℕ → List ℕ) (ds out : List ℕ)
    → (r : Judged) × (out' : List ℕ) × ConvertedBy convert ds out r out'
turns_answer = call_laws.converted_some

pub turns-one : (convert : List ℕ → List ℕ) {ds out out₁ out₂ : List ℕ} {r₁ r₂ : Judged} → ConvertedBy convert ds out r₁ out₁
    → ConvertedBy convert ds out r₂ out₂ → (r₁ ≡ r₂) × (out₁ ≡ out₂)
turns-one = promise_laws.converted_by-one

pub turns_exactly : {convert : List ℕ → List ℕ} {ds out out' : List ℕ} {r : Judged} → ConvertedBy convert ds out r out'
    → (j : Judged) → r ≡ j ↔ GivenTurns ds (length out) j
turns_exactly = digit_laws.turns-when

pub turns-words : {convert : List ℕ → List ℕ} {ds out out' : List ℕ} {r : Judged} → ConvertedBy convert ds out r out'
    → (j : Judged) → GivenTurns ds (length out) j → judged_words r ≡ judged_words j
turns-words w j g = ap judged_words ((turns_exactly w j).1 g)

pub turns_untouched : {convert : List ℕ → List ℕ} {ds out out' : List ℕ} (q : Refusal)
    → ConvertedBy convert ds out (Err q) out' → out' ≡ out
turns_untouched = call_laws.converted_untouched

-- and of the hull
pub hull_answers : (s : Corner) (chain : List ℕ) (before : List ℤ)
    → (r : Counted) × (after : List ℤ) × HullCall s chain before r after
hull_answers = call_laws.hull_call_some

pub hull_call_one : {s : Corner} {chain : List ℕ} {before after₁ after₂ : List ℤ} {r₁ r₂ : Counted}
    → HullCall s chain before r₁ after₁ → HullCall s chain before r₂ after₂ → (r₁ ≡ r₂) × (after₁ ≡ after₂)
hull_call_one = hull_call_laws.hull_call_one

pub hull_refused_exactly : {s : Corner} {chain : List ℕ} {before after : List ℤ} {r : Counted}
    (w : HullCall s chain before r after) (q : Refusal)
    → r ≡ Err q ↔ GivenHull s chain (length before) (length w.list) (Err q)
hull_refused_exactly = digit_laws.hull_refused_when

pub hull_counted_exactly : {s : Corner} {chain : List ℕ} {before after : List ℤ} {r : Counted}
    (w : HullCall s chain before r after)
    → r ≡ Ok (length w.list) ↔ GivenHull s chain (length before) (length w.list) (Ok tt)
hull_counted_exactly = digit_laws.hull_counted_when

pub hull_refused_words : {s : Corner} {chain : List ℕ} {before after : List ℤ} {r : Counted} (w : HullCall s chain before r after)
    (q : Refusal) → GivenHull s chain (length before) (length w.list) (Err q)
    → counted_words r ≡ refusal_number q ∷ refusal_place q ∷ 0 ∷ []
hull_refused_words w q g = ap counted_words ((hull_refused_exactly w q).1 g)

pub hull_counted_words : {s : Corner} {chain : List ℕ} {before after : List ℤ} {r : Counted} (w : HullCall s chain before r after)
    → GivenHull s chain (length before) (length w.list) (Ok tt) → counted_words r ≡ 0 ∷ 0 ∷ length w.list ∷ []
hull_counted_words w g = ap counted_words ((hull_counted_exactly w).1 g)

pub hull_untouched : (s : Corner) (chain : List ℕ) (before : List ℤ) {after : List ℤ} (q : Refusal)
    → HullCall s chain before (Err q) after → after ≡ before
hull_untouched = call_laws.hull_untouched

-- ---- Demand 2
module _ {c : Corner} {os t ms ch t' ms' ch' : List ℕ} {f : Facts} (w : WalkIs c os t ms ch (Ok f) t' ms' ch') where
  -- the facts are those of the surviving steps: steps, nodes, different corners, last corner
  pub facts : f ≡ facts_of c (survivors os)
  facts = walk_laws.its_facts w

  -- "the meeting of two visits": the first meeting, or there is none and both numbers are 65,535
  pub meeting : FirstMeets c (survivors os) f.j f.k
      ⊎ ((f.j ≡ no_meeting) × (f.k ≡ no_meeting) × ((i m : ℕ) → Meets c (survivors os) i m → ⊥))
  meeting = accepted_laws.its_meeting w

  -- "the verdict on closing and crossing"
  pub verdict : VerdictSays c (survivors os) f.verdict
  verdict = accepted_laws.its_verdict w

  -- "the panel count": the sum over the steps of x times the change of y for a room, and 0 for any other walk
  pub area : (IsRoom c (survivors os) → f.area ≡ sweep_from c (survivors os)) × ((IsRoom c (survivors os) → ⊥) → f.area ≡ pos 0)
  area = accepted_laws.its_area w

  -- for a room its magnitude is how many panels are inside
  pub panel-count : IsRoom c (survivors os) → nat_abs f.area ≡ panels_inside c (survivors os)
  panel-count = accepted_laws.its_panels w

  -- "every word of the table": the record of each node in use says what the table of words says, the visit count among it
  pub record_words_lem : (i : ℕ) → i < length (nodes_of (corners_from c (survivors os)))
      → RecordSays (corners_from c (survivors os)) (get_or (nodes_of (corners_from c (survivors os))) i origin)
      (λ n. get_or t' (word_at i n) 0)
  record_words_lem = accepted_laws.its_record w

  -- and all words after these records are zero
  pub unused_words : (n : ℕ) → width * f.nodes ≤ n → get_or t' n 0 ≡ 0
  unused_words = accepted_laws.its_unused w

  -- after each operation the nodes in use, the visits at the corner where the walk now stands, and the records that differ before
  -- and after it
  pub marks_words_lem : (k : ℕ) → k < length os → (get_or ms' (mark_words * k) 0 ≡ nodes_after c os (suc k))
      × (get_or ms' (mark_words * k + 1) 0 ≡ visits_after c os (suc k)) × (get_or ms' (mark_words * k + 2) 0 ≡ changes_at c os k)
  marks_words_lem = accepted_laws.its-mark w

  -- "it is at most 33"
  pub changed-at_most : (k : ℕ) → k < length os → get_or ms' (mark_words * k + 2) 0 ≤ 33
  changed-at_most = changed_laws.its_few w

  -- and never 33
  pub changed_fewer : (k : ℕ) → k < length os → get_or ms' (mark_words * k + 2) 0 ≤ 32
  changed_fewer = changed_laws.its_fewer w

  -- if no step is taken back the records that differ add up to at most three for each step, 16 for each different corner, and 256
  pub changed-sum : Below 4 os → sum_to (length os) (λ k. get_or ms' (mark_words * k + 2) 0) ≤ 3 * length os + 16 * f.corners
      + 256
  changed-sum = cost_laws.its_cost w

  -- so what a walk writes grows with its steps alone
  pub changed_linear : Below 4 os → sum_to (length os) (λ k. get_or ms' (mark_words * k + 2) 0) ≤ 19 * length os + 272
  changed_linear = cost_laws.its_line w

  -- the surviving steps, then zeros
  pub chain-bytes : ch' ≡ survivors os ++ replicate (length os - length (survivors os)) 0
  chain-bytes = walk_laws.its-chain w

  -- no buffer changes its length
  pub same_lengths : (length t' ≡ length t) × (length ms' ≡ length ms) × (length ch' ≡ length ch)
  same_lengths = accepted_laws.its_lengths w

-- 32 is reached: 16,384 steps east from (16384,16384) are accepted, and the last of them makes a link at each of 15 levels
pub changed-reached : {t ms ch t' ms' ch' : List ℕ} {r : Answer}
    → WalkIs (corner (pos 16384) (pos 16384)) (replicate 16384 0) t ms ch r t' ms' ch'
    → length t ≡ 65604 * width → length ms ≡ mark_words * 16384 → length ch ≡ 16384
    → (f : Facts) × (r ≡ Ok f) × (get_or ms' (mark_words * 16383 + 2) 0 ≡ 32)
changed-reached = reached_laws.sixteen_thousand

-- if no step is taken back they add up from the origin to at most three for each step and 16 for each different corner, less 12
pub changed-sum-origin : {os t ms ch t' ms' ch' : List ℕ} {f : Facts} → WalkIs origin os t ms ch (Ok f) t' ms' ch'
    → Below 4 os → sum_to (length os) (λ k. get_or ms' (mark_words * k + 2) 0) + 12 ≤ 3 * length os + 16 * f.corners
changed-sum-origin = cost_laws.its_cost_origin

-- only one first meeting, and only one verdict
pub first_meets_one : {c : Corner} {ds : List ℕ} {j k j' k' : ℕ} → FirstMeets c ds j k
    → FirstMeets c ds j' k' → (j ≡ j') × (k ≡ k')
first_meets_one = meeting_laws.first_meets_one

-- a room has at least four steps, and a closed walk has an even number of them
pub room_four : (c : Corner) (ds : List ℕ) → IsRoom c ds → 4 ≤ length ds
room_four c ds r = r.four

pub closed_even : (c : Corner) (ds : List ℕ) → end_from c ds ≡ c → length ds % 2 ≡ 0
closed_even = colour_laws.closed_even

-- so every closed walk of some steps with no meeting but (0,n) is a room, or goes there and back in two
pub room_or_back : (c : Corner) (ds : List ℕ) → 0 < length ds → end_from c ds ≡ c
    → ((j k : ℕ) → Meets c ds j k → (j ≡ 0) × (k ≡ length ds)) → IsRoom c ds ⊎ VerdictSays c ds ThereAndBack
room_or_back = verdict_laws.round-one

pub verdict_one : (c : Corner) (ds : List ℕ) (u v : Verdict) → VerdictSays c ds u → VerdictSays c ds v → u ≡ v
verdict_one = verdict_laws.verdict_says_one

-- "the panel count" of any closed walk, crossed ones too: the sum over the steps is a sum over panels. What else leaves it
-- unchanged, and what changes its sign, stands in Area.antt
pub sweep_panels : (c : Corner) (ds : List ℕ) → end_from c ds ≡ c → sweep_from c ds ≡ panel_sum c ds
sweep_panels = area_page.sweep_panels

-- "the panel count" of a room, from any start
module _ (c : Corner) (ds : List ℕ) (r : IsRoom c ds) where
  -- each panel counts once or not at all, and none takes away what another adds: every surplus is 0 or 1, or every surplus is 0
  -- or -1
  pub room_surplus : ((p : Panel) → (surplus_of c ds p ≡ pos 0) ⊎ (surplus_of c ds p ≡ pos 1))
      ⊎ ((p : Panel) → (surplus_of c ds p ≡ pos 0) ⊎ (surplus_of c ds p ≡ negsuc 0))
  room_surplus = room_laws.room_surplus c ds r

  -- walked with the room on the left hand the area is the number of panels inside, and with the room on the right hand that
  -- number's negative
  pub room-counts : (InsideLeft c ds × (area_of c ds ≡ pos (panels_inside c ds)))
      ⊎ (InsideRight c ds × (area_of c ds ≡ neg_ℤ (pos (panels_inside c ds))))
  room-counts = room_laws.room-counts c ds r

  -- so the area without its sign is the number of panels to order
  pub room_magnitude : nat_abs (area_of c ds) ≡ panels_inside c ds
  room_magnitude = room_laws.room_magnitude c ds r

  -- there is one at least
  pub room_some : 0 < panels_inside c ds
  room_some = room_laws.room_some c ds r

  -- and the sign of the area says which way round the room was walked
  pub room_sign : (pos 0 <ℤ area_of c ds ↔ InsideLeft c ds) × (area_of c ds <ℤ pos 0 ↔ InsideRight c ds)
  room_sign = room_laws.room_sign c ds r

  -- whoever lists the panels inside, each once, lists that many
  pub room_panels : (ps : List Panel) → ListsInside c ds ps → nat_abs (area_of c ds) ≡ length ps
  room_panels = room_laws.room_panels c ds r

-- "the radix quadtree": the nodes in use are the visited corners and their ancestors, each once, the root first
pub nodes_in_use : (ps : List Corner) (a : Corner) → Memᴰ a (nodes_of ps) ↔ InUse ps a
nodes_in_use ps a = (in_use_laws.node_in_use ps a, in_use_laws.in_use_node ps a)

pub nodes_once : (ps : List Corner) → Distinct (nodes_of ps)
nodes_once = node_laws.nodes_of_distinct

pub root-first : (p : Corner) (ps : List Corner) → (rest : List Corner) × (nodes_of (p ∷ ps) ≡ root ∷ rest)
root-first = in_use_laws.nodes_of-first

-- then in the order of the step that first needs them, and nearer the root first
pub nodes_by_step : (ps : List Corner) (a b : Corner) → InUse ps a → InUse ps b → need_of ps a < need_of ps b
    → ref_of (nodes_of ps) a < ref_of (nodes_of ps) b
nodes_by_step = order_laws.need_order

pub nodes_by-level : (ps : List Corner) (i : ℕ) (b a : Corner) → InUse ps b → AncestorAt (suc i) b a
    → ref_of (nodes_of ps) a < ref_of (nodes_of ps) b
nodes_by-level = order_laws.ref_ancestor

-- every link is to one of the four neighbours
pub links-to_neighbours : (c : Corner) (ds : List ℕ) → Below 4 ds → (a b : Corner) (k : ℕ) → LinkedBy (corners_from c ds) a b k
    → (d : ℕ) × (d < 4) × (b ≡ stepped d a)
links-to_neighbours = link_step_laws.link_next

-- both ends of an edge hold one count, and the words of the edges east and north of all nodes add up to the steps: none is lost
pub edge_both-ends : (ps : List Corner) (a : Corner) (d : ℕ) → edges_of ps a d ≡ edges_of ps (stepped d a) (back d)
edge_both-ends = edge_laws.edge_both-ends

pub edges_all : (c : Corner) (ds : List ℕ) → Below 4 ds
    → sum_of (λ a. pos (edges_of (corners_from c ds) a 0 + edges_of (corners_from c ds) a 1)) (nodes_of (corners_from c ds))
    ≡ pos (length ds)
edges_all = edge_laws.edges_all

-- a step changes as many records as taking it back, and tables of any more records differ in as many
pub changed-back : (c : Corner) (ds es : List ℕ) → changes_of c es ds ≡ changes_of c ds es
changed-back = diff_laws.changes-back

pub changed_larger : (c : Corner) (ds es : List ℕ) (n : ℕ) → length (nodes_of (corners_from c ds)) ≤ n
    → length (nodes_of (corners_from c es)) ≤ n
    → changes_in n (table_of (n * width) c ds) (table_of (n * width) c es) ≡ changes_of c ds es
changed_larger = diff_laws.changes_larger

-- the different corners are the visited ones, each once
pub corners_visited : (ps : List Corner) (a : Corner) → Memᴰ a (visited_of ps) ↔ Memᴰ a ps
corners_visited ps a = (visit_laws.visited_mem ps, visit_laws.mem_visited ps)

pub corners_once : (ps : List Corner) → Distinct (visited_of ps)
corners_once = visit_laws.visited_distinct

-- an accepted conversion leaves the digits converted
pub turns_written : {convert : List ℕ → List ℕ} {ds out out' : List ℕ}
    → ConvertedBy convert ds out (Ok tt) out' → out' ≡ convert ds
turns_written = call_laws.converted_written

-- "Freeman chains": the first digit of turns is the first step, each later digit is that step minus the one before
pub first_turn : (ds : List ℕ) → get_or (turns_of ds) 0 0 ≡ get_or ds 0 0
first_turn = buffer_laws.turn_first

pub later_turn : (ds : List ℕ) (k : ℕ) → suc k < length ds
    → get_or (turns_of ds) (suc k) 0 ≡ turn_of (get_or ds k 0) (get_or ds (suc k) 0)
later_turn = buffer_laws.turn_digit

-- the first step of turns is the first digit, each later step is the one before it turned by its digit
pub first_step : (ts : List ℕ) → get_or (steps_of ts) 0 0 ≡ get_or ts 0 0
first_step = buffer_laws.step_first

pub later_step : (ts : List ℕ) (k : ℕ) → suc k < length ts
    → get_or (steps_of ts) (suc k) 0 ≡ step_after (get_or (steps_of ts) k 0) (get_or ts (suc k) 0)
later_step = buffer_laws.step_digit

-- neither has more digits or fewer
pub turns-length : (ds : List ℕ) → length (turns_of ds) ≡ length ds
turns-length = turn_laws.length-turns_of

pub steps-length : (ts : List ℕ) → length (steps_of ts) ≡ length ts
steps-length = turn_laws.length-steps_of

-- "steps turned into turns and back give the same steps, and turns into steps and back the same turns"
pub steps-turns-steps : (s t₀ t u₀ u : List ℕ) (r : Judged) → ConvertedBy turns_of s t₀ (Ok tt) t → ConvertedBy steps_of t u₀ r u
    → length u₀ ≡ length s → (r ≡ Ok tt) × (u ≡ s)
steps-turns-steps = promise_laws.turns_and_back

pub turns-steps-turns : (s t₀ t u₀ u : List ℕ) (r : Judged) → ConvertedBy steps_of s t₀ (Ok tt) t → ConvertedBy turns_of t u₀ r u
    → length u₀ ≡ length s → (r ≡ Ok tt) × (u ≡ s)
turns-steps-turns = promise_laws.steps_and_back

-- "the hull corners": every walk has a hull list, it is the only one, and it holds exactly the extreme corners
pub hull_exists : (s : Corner) (ds : List ℕ) → (L : List Corner) × HullIs (corners_from s ds) L
hull_exists = hull_laws.hull_exists

pub hull_is_one : (P L L' : List Corner) → HullIs P L → HullIs P L' → L ≡ L'
hull_is_one = one_laws.hull_is_one

-- every visited corner lies on or left of every edge of the list, the closing one included
pub hull_edges : (s : Corner) (w : List ℕ) (L : List Corner) → HullIs (corners_from s w) L → Encloses (corners_from s w) L
hull_edges = hull_laws.hull_edges

pub hull_extreme : (P L : List Corner) → HullIs P L → (q : Corner) → Memᴰ q L ↔ Exposed P q
hull_extreme P L h = h.corners

-- an accepted call answers how many they are and leaves x and y of each; the numbers after the list are unchanged
pub hull_written : (s : Corner) (chain : List ℕ) (before : List ℤ) {after : List ℤ} (n : ℕ)
    (w : HullCall s chain before (Ok n) after)
    → (n ≡ length w.list) × (after ≡ numbers w.list ++ drop (2 * length w.list) before)
hull_written = call_laws.hull_written

-- ---- Demand 3
-- "if it is accepted, so is the record of the surviving steps alone in a table of the same size"
module _ {c : Corner} {os t ms ch t' ms' ch' t₁ ms₁ ch₁ t₂ ms₂ ch₂ : List ℕ} {f : Facts} {r : Answer}
    (w : WalkIs c os t ms ch (Ok f) t' ms' ch') (v : WalkIs c (survivors os) t₁ ms₁ ch₁ r t₂ ms₂ ch₂)
    (lent : LentAlone (survivors os) t t₁ ms₁ ch₁) where
  -- "both give the same answer"
  pub alone_answer : r ≡ Ok f
  alone_answer = alone_laws.same_answer w v lent

  -- "the same table"
  pub alone_table : t₂ ≡ t'
  alone_table = alone_laws.same_table w v lent

  -- "and the same surviving steps": the chain has nothing else
  pub alone_steps : ch₂ ≡ take f.steps ch'
  alone_steps = alone_laws.same-steps w v lent

-- before the first operation the nodes are the start and its ancestors, from the root down
pub start_planted : (c : Corner) → nodes_of (corners_from c []) ≡ path_of c
start_planted = start_laws.nodes_start

-- "no walk has more than 16,384 surviving steps at any moment"
pub steps_few : {c : Corner} {os : List ℕ} {words marks chain : ℕ} → Faultless c os words marks chain → (k : ℕ) → k ≤ length os
    → length (steps_after os k) ≤ most_steps
steps_few = alone_laws.few_steps

-- "coordinates may then reach 32,768", and no corner is farther from 0
pub corners-far : (c : Corner) (ds : List ℕ) → Near c → length ds ≤ most_steps → (q : Corner) → Memᴰ q (corners_from c ds)
    → (nat_abs q.0 ≤ farthest) × (nat_abs q.1 ≤ farthest)
corners-far = alone_laws.corners-far

-- "after every operation, the nodes in use number at most eight times the different corners that the walk then touches plus 68"
pub at_most_eight : {c : Corner} {os : List ℕ} {words marks chain : ℕ} → Faultless c os words marks chain → (k : ℕ)
    → k ≤ length os → AtMostEight (nodes_after c os k) (corners_after c os k)
at_most_eight = alone_laws.at_most_eight

-- less is enough: at most four times the corners and 64
pub four_and_start : {c : Corner} {os : List ℕ} {words marks chain : ℕ} → Faultless c os words marks chain → (k : ℕ)
    → k ≤ length os → FourAndStart (nodes_after c os k) (corners_after c os k)
four_and_start = alone_laws.four_and_start

-- and from the origin at most four times the corners, less three
pub four_less-three : (os : List ℕ) (k : ℕ) → FourLessThree (nodes_after origin os k) (corners_after origin os k)
four_less-three = alone_laws.four_less-three

-- from any start, if every coordinate is below 2 ^ n: at most four times the corners and 4 n
pub four_and_levels : (n : ℕ) (c : Corner) (ds : List ℕ) → ((q : Corner) → Memᴰ q (corners_from c ds) → WithinLevels n q)
    → length (nodes_of (corners_from c ds)) ≤ 4 * length (visited_of (corners_from c ds)) + 4 * n
four_and_levels = count_laws.few_nodes_from

module _ {c : Corner} {os t ms ch t' ms' ch' : List ℕ} {r : Answer} (w : WalkIs c os t ms ch r t' ms' ch') where
  -- "so a table that large at every moment is never refused for room"
  pub enough_eight : ((k : ℕ) → k ≤ length os → 8 * corners_after c os k + 68 ≤ records_in (length t)) → (i : ℕ)
      → r ≡ Err (NoRoom i) → ⊥
  enough_eight = alone_laws.enough_eight w

  -- nor one with four records for each corner and 64
  pub enough_four : ((k : ℕ) → k ≤ length os → 4 * corners_after c os k + 64 ≤ records_in (length t)) → (i : ℕ)
      → r ≡ Err (NoRoom i) → ⊥
  enough_four = alone_laws.enough_four w

  -- nor one with 65,604 records, whatever the walk
  pub enough_always : 65604 ≤ records_in (length t) → (i : ℕ) → r ≡ Err (NoRoom i) → ⊥
  enough_always = alone_laws.enough_largest w

-- from the origin four records for each corner, less three, are enough
pub enough_origin : {os t ms ch t' ms' ch' : List ℕ} {r : Answer} → WalkIs origin os t ms ch r t' ms' ch'
    → ((k : ℕ) → k ≤ length os → 4 * corners_after origin os k ≤ records_in (length t) + 3) → (i : ℕ)
    → r ≡ Err (NoRoom i) → ⊥
enough_origin = alone_laws.enough_origin
