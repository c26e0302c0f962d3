-- The laws of one operation, as its proof cites them.
-- Assumes nothing.
use Rattle.std.specs.Prelude.{None, Option, Some}
use mathlib.Core.List.{List, [], ◌∷◌, ◌++◌}
use mathlib.Core.Path.{◌≡◌, ap, ap₂, sym, ◌∙◌, subst}
use Prim.Native.Nat.{ℕ, suc, ◌+◌, ◌-◌, ◌*◌, ◌<◌, ◌≤◌}
use native.Mathlib.Omega.{arith}
use lib.IntN.{nat_abs}
use lib.ListN.{length, length-append, take, get_or, set, replicate}
use lib.Seq.{sets}
use Rattle.answer.specs.Limits.{most_steps}
use Rattle.grid.specs.declared.Corner.{Corner}
use Rattle.grid.specs.Grid.{same, corners_from, end_from}
use Rattle.lists.specs.Lists.{count}
use Rattle.walk_step.specs.declared.Walk.{Walk}
use Rattle.walk_run.specs.declared.Turn.{Turn}
use Rattle.walk_step.specs.Spots.{Stepped}
use Rattle.walk_step.specs.Walks.{Known}
use Rattle.walk_step.proofs.ChainLaws.{keeps_near, keeps_place, keeps_split, keeps_digit, keeps_back, keeps_step}
use Rattle.layout.specs.Marks.{mark_words, changes_of, mark_of}
use Rattle.tree.specs.Nodes.{nodes_of}
use Rattle.tree_laws.specs.State.{state_of}
use Rattle.steps.specs.Operations.{operate}
use Rattle.layout.specs.Table.{width, word_at, visits_word}
use Rattle.table_laws.proofs.Cites.{ref_below}
use Rattle.table_laws.proofs.DiffLaws.{changes-back}
use Rattle.table_laws.proofs.RowLaws.{table_state}
use Rattle.table_laws.proofs.CellLaws.{read_visits}
use Rattle.steps.proofs.SurvivorLaws.{operate_step, operate-back}
use Rattle.walk_run.specs.Runs.{Chained, Acted, Performed}

module _ (c : Corner) (t ch ds : List ℕ) (w : Walk) (k : Chained c t ch ds w) where
  pub chained_few : w.spot.steps ≤ most_steps
  chained_few = omega (arith, k.known.walked.steps, k.own.sound.few)

  pub chained_near : (nat_abs w.spot.at.0 < 65536) × (nat_abs w.spot.at.1 < 65536)
  chained_near = keeps_near c ch ds k.own w.spot.at k.known.walked.corner

  -- the last step, from the chain
  module _ (some : 0 < w.spot.steps) where
    pub chained_place : w.spot.steps - 1 < length ch
    chained_place = keeps_place c ch ds k.own w.spot.steps k.known.walked.steps some

    chained_split : ds ≡ take (w.spot.steps - 1) ch ++ (get_or ch (w.spot.steps - 1) 0 ∷ [])
    chained_split = keeps_split c ch ds k.own w.spot.steps k.known.walked.steps some

    pub chained_digit : get_or ch (w.spot.steps - 1) 0 < 4
    chained_digit = keeps_digit c ch ds k.own w.spot.steps k.known.walked.steps some

    pub chained_known : Known t c (take (w.spot.steps - 1) ch ++ (get_or ch (w.spot.steps - 1) 0 ∷ [])) w
    chained_known = subst (λ (l : List ℕ). Known t c l w) chained_split k.known

    chained_less : (o : ℕ) → o ≡ 4 → operate ds o ≡ take (w.spot.steps - 1) ch
    chained_less o q = ap₂ operate chained_split q ∙ operate-back (take (w.spot.steps - 1) ch) (get_or ch (w.spot.steps - 1) 0)

    -- how many records it changes, backwards as forwards
    chained_changes : (o n : ℕ) → o ≡ 4 → n ≡ changes_of c (take (w.spot.steps - 1) ch) (take (w.spot.steps - 1) ch ++ (get_or ch (w.spot.steps - 1) 0 ∷ [])) → n ≡ changes_of c ds (operate ds o)
    chained_changes o n q z =
        let l = take (w.spot.steps - 1) ch in
        z ∙ ap (changes_of c l) (sym chained_split) ∙ changes-back c ds l ∙ ap (changes_of c ds) (sym (chained_less o q))

    pub chained_back : (o : ℕ) → o ≡ 4 → (words n : ℕ) (t' : List ℕ) (v : Walk) → Known t' c (take (w.spot.steps - 1) ch) v → length t' ≡ words
        → n ≡ changes_of c (take (w.spot.steps - 1) ch) (take (w.spot.steps - 1) ch ++ (get_or ch (w.spot.steps - 1) 0 ∷ []))
        → Acted words c t' ch ds (operate ds o) (Some (record { walk = v; changed = n }))
    chained_back o q words n t' v h l z =
        (subst (λ (l : List ℕ). Chained c t' ch l v) (sym (chained_less o q)) (record { known = h; own = keeps_back c ch ds k.own w.spot.steps k.known.walked.steps some }), l, chained_changes o n q z)

  -- a step more, in the chain
  module _ (o : ℕ) (few : w.spot.steps < most_steps) (small : o < 4) (place : w.spot.steps < length ch) where
    pub chained_go : (words n : ℕ) (t' : List ℕ) (v : Walk) → Known t' c (ds ++ (o ∷ [])) v × (length t' ≡ words) → n ≡ changes_of c ds (ds ++ (o ∷ []))
        → Acted words c t' (set ch w.spot.steps o) ds (operate ds o) (Some (record { walk = v; changed = n }))
    chained_go words n t' v h e =
        rw (operate_step ds o small) (record { known = h.0; own = keeps_step c ch ds k.own w.spot.steps k.known.walked.steps o small few place }, h.1, e)

    pub chained_full : (words : ℕ) (t' ch' : List ℕ) → (words < width * length (nodes_of (corners_from c (ds ++ (o ∷ []))))) × (t' ≡ replicate words 0) → Acted words c t' ch' ds (operate ds o) None
    chained_full words t' ch' h = rw (operate_step ds o small) h

    -- where it ends
    pub chained_done : (words : ℕ) (t' : List ℕ) (v : Walk) → Known t' c (ds ++ (o ∷ [])) v → Stepped t' v.spot o × (v.spot.steps < 65537)
    chained_done words t' v h = (record { start = c; chain = ds; walked = h.walked }, omega (arith, h.walked.steps, length-append ds (o ∷ []), k.known.walked.steps, few))

  -- its mark
  module _ (words : ℕ) (l : length t ≡ words) where
    chained_bounds : (word_at w.spot.node visits_word < length t) × (width * w.spot.nodes ≤ words)
    chained_bounds =
        let h = k.known.walked in
        (bound w.spot.node (length (nodes_of (corners_from c ds))) w.spot.nodes (length t) (ref_below (nodes_of (corners_from c ds)) (end_from c ds) w.spot.node h.here) h.count h.room, subst (λ (n : ℕ). width * w.spot.nodes ≤ n) l h.room)
      where
        bound : (a n m l : ℕ) → a < n → m ≡ n → width * m ≤ l → word_at a visits_word < l
        bound a n m l p q s = omega arith

  chained_mark : (cs ms ms' : List ℕ) (i n : ℕ) → n ≡ changes_of c cs ds → ms' ≡ set (set (set ms (mark_words * i) w.spot.nodes) (mark_words * i + 1) (get_or t (word_at w.spot.node visits_word) 0)) (mark_words * i + 2) n → ms' ≡ sets ms (mark_words * i) (mark_of c cs ds)
  chained_mark cs ms ms' i n z q =
      let h = k.known.walked in
      let j₁ : mark_words * i + 1 ≡ suc (mark_words * i) = omega arith in
      let j₂ : mark_words * i + 2 ≡ suc (suc (mark_words * i)) = omega arith in
      let v = get_or t (word_at w.spot.node visits_word) 0 in
      let seen : get_or t (word_at w.spot.node visits_word) 0 ≡ count (same (end_from c ds)) (corners_from c ds) = ap (λ (x : List ℕ). get_or x (word_at w.spot.node visits_word) 0) (h.whole ∙ table_state (length t) c ds) ∙ read_visits (length t) (state_of (corners_from c ds)) (end_from c ds) w.spot.node h.here in
      q
      ∙ ap₂ (λ (a b : ℕ). set (set (set ms (mark_words * i) w.spot.nodes) a v) b n) j₁ j₂
      ∙ ap₂ (λ (x y : ℕ). set (set (set ms (mark_words * i) x) (suc (mark_words * i)) y) (suc (suc (mark_words * i))) n) h.count seen
      ∙ ap (λ (x : ℕ). sets ms (mark_words * i) (length (nodes_of (corners_from c ds)) ∷ count (same (end_from c ds)) (corners_from c ds) ∷ x ∷ [])) z

-- one operation with its mark, from the answer to it
module _ (words : ℕ) (ms : List ℕ) (i : ℕ) (c : Corner) (t ch cs ds : List ℕ) where
  pub performed_full : (r : Option Turn) → r ≡ None → Acted words c t ch cs ds r → (ms' : List ℕ) → Performed words ms i c t ms' ch cs ds None
  performed_full r e h ms' = subst (λ y. Acted words c t ch cs ds y) e h

  module _ (r : Option Turn) (v : Turn) (e : r ≡ Some v) (h : Acted words c t ch cs ds r) where
    acted_to : Chained c t ch ds v.walk × (length t ≡ words) × (v.changed ≡ changes_of c cs ds)
    acted_to = subst (λ y. Acted words c t ch cs ds y) e h

    pub acted_bounds : (word_at v.walk.spot.node visits_word < length t) × (width * v.walk.spot.nodes ≤ words)
    acted_bounds = let g = acted_to in chained_bounds c t ch ds v.walk g.0 words g.1

    pub performed_to : (ms' : List ℕ) → ms' ≡ set (set (set ms (mark_words * i) v.walk.spot.nodes) (mark_words * i + 1) (get_or t (word_at v.walk.spot.node visits_word) 0)) (mark_words * i + 2) v.changed → Performed words ms i c t ms' ch cs ds (Some v.walk)
    performed_to ms' q = let g = acted_to in (g.0, g.1, chained_mark c t ch ds v.walk g.0 cs ms ms' i v.changed g.2 q)
