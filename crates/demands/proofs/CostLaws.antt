-- What the steps of a walk change in all: each record above the two ends of a step, but one, has a link more than before, and no record has more than four.
-- Assumes nothing.
use Rattle.std.specs.Prelude.{Ok}
use mathlib.Core.Bool.{Bool, true, false, cond, true≢false}
use mathlib.Core.List.Memᴰ
use mathlib.Core.List.{List, [], ◌∷◌, ◌++◌, Memᴰ}
use mathlib.Core.Logic.{◌⊎◌, ⊎_elim}
use mathlib.Core.Path.{◌≡◌, refl, ap, sym, ◌∙◌, subst}
use Prim.Native.Nat.{ℕ, zero, suc, ◌+◌, ◌*◌, ◌<◌, ◌≤◌}
use native.Mathlib.Omega.{arith}
use borrow.Author.Tests.{ltb-true, lt-ltb}
use lib.Dec.{ltb}
use lib.ListN.{length, get_or, take, length-append}
use lib.Seq.{take-length}
use Rattle.answer.specs.declared.Facts.{Facts}
use Rattle.grid.specs.declared.Corner.{Corner}
use Rattle.grid.specs.Grid.{origin, same, stepped, corners_from, end_from}
use Rattle.grid.specs.Tree.{parent_of, is_root, size_of, path_of}
use Rattle.lists.specs.Lists.{count, tally, Distinct, Below}
use Rattle.steps.specs.Operations.{survivors}
use Rattle.trace.specs.Meeting.{visited_of}
use Rattle.walk.specs.Walk.{WalkIs}
use Rattle.layout.specs.Marks.{mark_words, changes_of}
use Rattle.tree.specs.Nodes.{nodes_of, links}
use Rattle.tree_laws.specs.State.{later, state_of, links_up, is_fresh, but, risen_by}
use Rattle.grid.proofs.CornerLaws.{same_refl, same_sound}
use Rattle.grid.proofs.StepLaws.{length-corners_from, end_from_snoc, stepped-back, stepped_ne}
use Rattle.lists.proofs.BelowLaws.{below_get_d}
use Rattle.lists.proofs.BoolLaws.{tally_le}
use Rattle.lists.proofs.FindLaws.{count-append}
use Rattle.lists.proofs.GatherLaws.{mem-gather-left, gather-more}
use Rattle.lists.proofs.PigeonLaws.{pigeon}
use Rattle.steps.proofs.SurvivorLaws.{operate_step, length-survivors}
use Rattle.trace.proofs.VisitLaws.{length_visited_le}
use Rattle.tree_laws.proofs.LaterLaws.{later-old, later_new}
use Rattle.tree_laws.proofs.LineageLaws.{links_here, links_flip, links-up}
use Rattle.tree_laws.proofs.PushLaws.{push_nodes, push_state, sound_walk, finish_node}
use Rattle.tree_laws.proofs.RiseLaws.{goes_up_lem, risen_up, risen_top, risen_all, risen_once, up-near}
use Rattle.table_laws.proofs.ChangeLaws.{rooted}
use Rattle.table_laws.proofs.DiffLaws.{walk_changes}
use Rattle.demands.specs.Moments.{steps_after, nodes_after, corners_after, changes_at, sum_to}
use Rattle.demands.specs.Given.{GivenWalk}
use Rattle.demands.specs.Given as goal
use Rattle.demands.proofs.AcceptedLaws.{its-mark}
use Rattle.demands.proofs.AloneLaws.{four_and_start, four_less-three}
use Rattle.demands.proofs.ChangedLaws.{steps_next}
use Rattle.demands.proofs.WalkLaws.{its_facts, its_occasion}

-- ---- sums over nodes
abbrev total : (Corner → ℕ) → List Corner → ℕ
total f [] = 0
total f (x ∷ l) = f x + total f l

total-append : (f : Corner → ℕ) (l m : List Corner) → total f (l ++ m) ≡ total f l + total f m
total-append f [] m = omega arith
total-append f (x ∷ l) m = omega (arith, total-append f l m)

total_four : (f : Corner → ℕ) → ((x : Corner) → f x ≤ 4) → (l : List Corner) → total f l ≤ 4 * length l
total_four f h [] = omega arith
total_four f h (x ∷ l) = omega (arith, h x, total_four f h l)

-- a value that grows, and by one at least if the test passes
total_grows : (f g : Corner → ℕ) (t : Corner → Bool) → ((x : Corner) → f x + tally (t x) ≤ g x) → (l : List Corner) → total f l + count t l ≤ total g l
total_grows f g t h [] = omega arith
total_grows f g t h (x ∷ l) = omega (arith, h x, total_grows f g t h l)

-- elements that stand once, all of them in a list, pass there as often at least
module _ (t : Corner → Bool) where
  abbrev put : Bool → Corner → List Corner → List Corner
  put b x l = cond b (x ∷ l) l

  abbrev passing : List Corner → List Corner
  passing [] = []
  passing (x ∷ l) = put (t x) x (passing l)

  passing-count : (l : List Corner) → length (passing l) ≡ count t l
  passing-count [] = refl
  passing-count (x ∷ l) = by (t x) (passing-count l)
    where
      by : (b : Bool) → length (passing l) ≡ count t l → length (put b x (passing l)) ≡ tally b + count t l
      by true h = omega arith
      by false h = omega arith

  passing_in : (l : List Corner) {y : Corner} → Memᴰ y (passing l) → Memᴰ y l × (t y ≡ true)
  passing_in [] m = absurd (Memᴰ.not-nil m)
  passing_in (x ∷ l) {y} m = by (t x) refl m (λ n. passing_in l n)
    where
      by : (b : Bool) → t x ≡ b → Memᴰ y (put b x (passing l)) → (Memᴰ y (passing l) → Memᴰ y l × (t y ≡ true)) → Memᴰ y (x ∷ l) × (t y ≡ true)
      by true e n ih = ⊎_elim (λ q. (Memᴰ.head q, ap t q ∙ e)) (λ k. let r = ih k in (Memᴰ.tail r.0, r.1)) (Memᴰ.cases_cons n)
      by false e n ih = let r = ih n in (Memᴰ.tail r.0, r.1)

  in_passing : (l : List Corner) {y : Corner} → Memᴰ y l → t y ≡ true → Memᴰ y (passing l)
  in_passing [] m h = absurd (Memᴰ.not-nil m)
  in_passing (x ∷ l) {y} m h = by (t x) refl (Memᴰ.cases_cons m) (λ n. in_passing l n h)
    where
      by : (b : Bool) → t x ≡ b → (y ≡ x) ⊎ Memᴰ y l → (Memᴰ y l → Memᴰ y (passing l)) → Memᴰ y (put b x (passing l))
      by true e n ih = ⊎_elim (λ q. Memᴰ.head q) (λ k. Memᴰ.tail (ih k)) n
      by false e n ih = ⊎_elim (λ q. absurd (true≢false (sym h ∙ ap t q ∙ e))) ih n

  passing_once : (l : List Corner) → Distinct l → Distinct (passing l)
  passing_once [] d = tt
  passing_once (x ∷ l) d = by (t x) (passing_once l d.1)
    where
      by : (b : Bool) → Distinct (passing l) → Distinct (put b x (passing l))
      by true h = (λ m. d.0 (passing_in l m).0, h)
      by false h = h

  count-within : (l m : List Corner) → Distinct l → ((x : Corner) → Memᴰ x l → Memᴰ x m) → count t l ≤ count t m
  count-within l m d h = omega (arith, pigeon (passing l) (passing m) (passing_once l d) (λ x n. let r = passing_in l n in in_passing m (h x r.0) r.1), passing-count l, passing-count m)

-- ---- the links of a node
abbrev is_link : (Corner → Corner → ℕ) → Corner → ℕ → Bool
is_link L x d = ltb 0 (L x (stepped d x))

abbrev degree : (Corner → Corner → ℕ) → Corner → ℕ
degree L x = tally (is_link L x 0) + tally (is_link L x 1) + tally (is_link L x 2) + tally (is_link L x 3)

degree_four : (L : Corner → Corner → ℕ) (x : Corner) → degree L x ≤ 4
degree_four L x = omega (arith, tally_le (is_link L x 0), tally_le (is_link L x 1), tally_le (is_link L x 2), tally_le (is_link L x 3))

link_stays : (n m : ℕ) → (0 < n → 0 < m) → tally (ltb 0 n) ≤ tally (ltb 0 m)
link_stays n m h = go (ltb 0 n) refl
  where
    go : (b : Bool) → ltb 0 n ≡ b → tally b ≤ tally (ltb 0 m)
    go true e = omega (arith, ap tally (lt-ltb 0 m (h (ltb-true 0 n e))))
    go false e = omega arith

module _ (L M : Corner → Corner → ℕ) (kept : (x : Corner) (d : ℕ) → 0 < L x (stepped d x) → 0 < M x (stepped d x)) where
  stays : (x : Corner) (d : ℕ) → tally (is_link L x d) ≤ tally (is_link M x d)
  stays x d = link_stays (L x (stepped d x)) (M x (stepped d x)) (kept x d)

  degree_grows : (x : Corner) → degree L x ≤ degree M x
  degree_grows x = omega (arith, stays x 0, stays x 1, stays x 2, stays x 3)

  -- with a link more
  new : (x : Corner) (d : ℕ) → L x (stepped d x) ≡ 0 → 0 < M x (stepped d x) → suc (tally (is_link L x d)) ≤ tally (is_link M x d)
  new x d e h = omega (arith, ap (λ (n : ℕ). tally (ltb 0 n)) e, ap tally (lt-ltb 0 (M x (stepped d x)) h))

  degree-more : (x : Corner) (d : ℕ) → d < 4 → L x (stepped d x) ≡ 0 → 0 < M x (stepped d x) → degree L x < degree M x
  degree-more x zero s e h = omega (arith, new x 0 e h, stays x 1, stays x 2, stays x 3)
  degree-more x (suc zero) s e h = omega (arith, new x 1 e h, stays x 0, stays x 2, stays x 3)
  degree-more x (suc (suc zero)) s e h = omega (arith, new x 2 e h, stays x 0, stays x 1, stays x 3)
  degree-more x (suc (suc (suc zero))) s e h = omega (arith, new x 3 e h, stays x 0, stays x 1, stays x 2)
  degree-more x (suc (suc (suc (suc d)))) s e h = absurd (omega arith)

  abbrev gains : Corner → Bool
  gains x = ltb (degree L x) (degree M x)

  degree-gains : (x : Corner) → degree L x + tally (gains x) ≤ degree M x
  degree-gains x = go (gains x) refl
    where
      go : (b : Bool) → gains x ≡ b → degree L x + tally b ≤ degree M x
      go true e = omega (arith, ltb-true (degree L x) (degree M x) e)
      go false e = omega (arith, degree_grows x)

-- the way back from a neighbour
return : (d : ℕ) (c : Corner) → (e : ℕ) × (e < 4) × (stepped e (stepped d c) ≡ c)
return zero c = (2, omega arith, stepped-back 0 c)
return (suc zero) c = (3, omega arith, stepped-back 1 c)
return (suc (suc zero)) c = (0, omega arith, stepped-back 2 c)
return (suc (suc (suc d))) c = (1, omega arith, stepped-back (suc (suc (suc d))) c)

-- how many links the nodes of a walk have, counted at both ends
abbrev links_of : Corner → List ℕ → ℕ
links_of c ds = total (degree (state_of (corners_from c ds)).step) (nodes_of (corners_from c ds))

-- four at most for each
links_few : (c : Corner) (ds : List ℕ) → links_of c ds ≤ 4 * length (nodes_of (corners_from c ds))
links_few c ds = total_four (degree (state_of (corners_from c ds)).step) (degree_four (state_of (corners_from c ds)).step) (nodes_of (corners_from c ds))

-- ---- one step more
module _ (c : Corner) (ds : List ℕ) (d : ℕ) (small : d < 4) where
  abbrev a : Corner
  a = end_from c ds

  abbrev e : Corner
  e = stepped d a

  abbrev ns : List Corner
  ns = nodes_of (corners_from c ds)

  abbrev ms : List Corner
  ms = nodes_of (corners_from c (ds ++ (d ∷ [])))

  abbrev L : Corner → Corner → ℕ
  L = (state_of (corners_from c ds)).step

  abbrev M : Corner → Corner → ℕ
  M = (state_of (corners_from c (ds ++ (d ∷ [])))).step

  pushed : (x : Corner) (i : ℕ) → M x (stepped i x) ≡ later (L x (stepped i x)) (links x (stepped i x) (a, e)) (suc (length ds))
  pushed x i = (push_state c ds d).step x (stepped i x) (λ q. stepped_ne i x (sym q))

  kept : (x : Corner) (i : ℕ) → 0 < L x (stepped i x) → 0 < M x (stepped i x)
  kept x i h = omega (arith, h, pushed x i ∙ later-old (L x (stepped i x)) (links x (stepped i x) (a, e)) (suc (length ds)) h)

  made : (x : Corner) (i : ℕ) → L x (stepped i x) ≡ 0 → links x (stepped i x) (a, e) ≡ true → 0 < M x (stepped i x)
  made x i z l = omega (arith, pushed x i ∙ later_new (L x (stepped i x)) (links x (stepped i x) (a, e)) (suc (length ds)) z l)

  grounded : (g : Corner) → is_fresh ns g ≡ true → is_root g ≡ false
  grounded = rooted (state_of (corners_from c ds)) (sound_walk c ds) (suc (length ds)) d (omega arith) small

  abbrev test : Corner → Bool
  test = gains L M kept

  -- both ends of a link that is made
  made_here : (x : Corner) → L x (stepped d x) ≡ 0 → links x (stepped d x) (a, e) ≡ true → test x ≡ true
  made_here x z l = lt-ltb (degree L x) (degree M x) (degree-more L M kept x d small z (made x d z l))

  made_there : (x : Corner) → L x (stepped d x) ≡ 0 → links x (stepped d x) (a, e) ≡ true → test (stepped d x) ≡ true
  made_there x z l =
      let y = stepped d x in
      let r = return d x in
      let i = r.0 in
      let q : stepped i y ≡ x = r.2 in
      let zy : L y (stepped i y) ≡ 0 = ap (L y) q ∙ (sound_walk c ds).good.both y x ∙ z in
      let ly : links y (stepped i y) (a, e) ≡ true = ap (λ (w : Corner). links y w (a, e)) q ∙ links_flip y x a e ∙ l in
      lt-ltb (degree L y) (degree M y) (degree-more L M kept y i r.1 zy (made y i zy ly))

  but-count : (x y : Corner) → test x ≡ true → length (but x y) ≤ count test (but x y)
  but-count x y h = by (same x y)
    where
      by : (b : Bool) → length (cond b [] (x ∷ [])) ≤ count test (cond b [] (x ∷ []))
      by true = omega arith
      by false = omega (arith, ap tally h)

  short : (x y : Corner) → length (but x y) ≤ 1
  short x y = by (same x y)
    where
      by : (b : Bool) → length (cond b [] (x ∷ [])) ≤ 1
      by true = omega arith
      by false = omega arith

  -- all nodes above but one have a link more
  risen_gain : (k : ℕ) (b : Corner) → links b (stepped d b) (a, e) ≡ true → length (risen_by L ns k b (stepped d b)) ≤ count test (risen_by L ns k b (stepped d b)) + 1
  risen_gain zero b l = omega arith
  risen_gain (suc k) b l = go (links_up L b g) refl (risen_gain k (parent_of b))
    where
      g : Corner
      g = stepped d b

      top : (t : Bool) → length (cond t (but (parent_of g) b) []) ≤ 1
      top true = short (parent_of g) b
      top false = omega arith

      go : (t : Bool) → links_up L b g ≡ t
          → (links (parent_of b) (stepped d (parent_of b)) (a, e) ≡ true → length (risen_by L ns k (parent_of b) (stepped d (parent_of b))) ≤ count test (risen_by L ns k (parent_of b) (stepped d (parent_of b))) + 1)
          → length (risen_by L ns (suc k) b g) ≤ count test (risen_by L ns (suc k) b g) + 1
      go false r ih = omega (arith, ap length (risen_top L ns grounded k b g r), top (is_fresh ns g))
      go true r ih =
          let f = goes_up_lem L b g r in
          let near : parent_of g ≡ stepped d (parent_of b) = up-near L ns grounded d b g refl r in
          let up : links (parent_of b) (stepped d (parent_of b)) (a, e) ≡ true = subst (λ (y : Corner). links (parent_of b) y (a, e) ≡ true) near (links-up b g a e f.0 f.1 l) in
          let none : L (parent_of b) (stepped d (parent_of b)) ≡ 0 = ap (L (parent_of b)) (sym near) ∙ f.3 in
          let x = but (parent_of b) g in
          let y = but (parent_of g) b in
          let m = risen_by L ns k (parent_of b) (parent_of g) in
          let h : length m ≤ count test m + 1 = subst (λ (w : Corner). length (risen_by L ns k (parent_of b) w) ≤ count test (risen_by L ns k (parent_of b) w) + 1) (sym near) (ih up) in
          let hx = but-count (parent_of b) g (made_here (parent_of b) none up) in
          let hy = but-count (parent_of g) b (ap test near ∙ made_there (parent_of b) none up) in
          omega (
            arith,
            ap length (risen_up L ns grounded k b g r),
            ap (count test) (risen_up L ns grounded k b g r),
            length-append x (y ++ m),
            length-append y m,
            count-append test x (y ++ m),
            count-append test y m,
            h,
            hx,
            hy,
          )

  -- they are nodes after the step
  risen_nodes : (k : ℕ) (x : Corner) → Memᴰ x (risen_by L ns k a e) → Memᴰ x ms
  risen_nodes k x m =
      risen_all L ns grounded (λ y. Memᴰ y ms) (λ y i r. (sound_walk c (ds ++ (d ∷ []))).good.closed y i r) k a e
      (subst (Memᴰ a) (sym (push_nodes c ds d)) (mem-gather-left same same_sound same_refl ns (path_of e) (finish_node c ds)))
      (subst (λ (y : Corner). Memᴰ y ms) (end_from_snoc c ds d) (finish_node c (ds ++ (d ∷ []))))
      x m

  -- so the records that the step changes are three at most, and those that have a link more
  step_cost : changes_of c ds (ds ++ (d ∷ [])) + links_of c ds ≤ 3 + links_of c (ds ++ (d ∷ []))
  step_cost =
      let k = suc (size_of a) in
      let r = risen_by L ns k a e in
      let once : Distinct r = (risen_once L ns grounded k d a e refl).1.1 in
      let more = gather-more same ns (path_of e) in
      let grown : ms ≡ ns ++ more.0 = push_nodes c ds d ∙ more.1 in
      omega (
        arith,
        walk_changes c ds d small k (omega arith),
        risen_gain k a (links_here a e),
        count-within test r ms once (risen_nodes k),
        total_grows (degree L) (degree M) test (degree-gains L M kept) ms,
        ap (total (degree L)) grown ∙ total-append (degree L) ns more.0,
      )

-- ---- all steps of a walk that takes none back
sum_same : (n : ℕ) (f g : ℕ → ℕ) → ((k : ℕ) → k < n → f k ≡ g k) → sum_to n f ≡ sum_to n g
sum_same zero f g h = refl
sum_same (suc n) f g h = omega (arith, sum_same n f g (λ k l. h k (omega arith)), h n (omega arith))

steps_cost : (c : Corner) (os : List ℕ) → Below 4 os → (n : ℕ) → n ≤ length os → sum_to n (changes_at c os) ≤ 3 * n + links_of c (steps_after os n)
steps_cost c os b zero h = omega arith
steps_cost c os b (suc n) h =
    let o = get_or os n 0 in
    let small : o < 4 = below_get_d 4 os n b h in
    let next : steps_after os (suc n) ≡ steps_after os n ++ (o ∷ []) = steps_next [] os n h ∙ operate_step (steps_after os n) o small in
    omega (
      arith,
      steps_cost c os b n (omega arith),
      step_cost c (steps_after os n) o small,
      ap (changes_of c (steps_after os n)) next,
      ap (links_of c) next,
    )

module _ {c : Corner} {os t ms ch t' ms' ch' : List ℕ} {f : Facts} (w : WalkIs c os t ms ch (Ok f) t' ms' ch') (steps : Below 4 os) where
  abbrev thirds : ℕ
  thirds = sum_to (length os) (λ k. get_or ms' (mark_words * k + 2) 0)

  its-sum : thirds ≤ 3 * length os + 4 * nodes_after c os (length os)
  its-sum =
      omega (
        arith,
        sum_same (length os) (λ k. get_or ms' (mark_words * k + 2) 0) (changes_at c os) (λ k h. (its-mark w k h).2),
        steps_cost c os steps (length os) (omega arith),
        links_few c (steps_after os (length os)),
      )

  its-corners : f.corners ≡ corners_after c os (length os)
  its-corners = ap (λ (g : Facts). g.corners) (its_facts w) ∙ ap (λ (l : List ℕ). length (visited_of (corners_from c (survivors l)))) (sym (take-length os))

  pub its_cost : sum_to (length os) (λ k. get_or ms' (mark_words * k + 2) 0) ≤ 3 * length os + 16 * f.corners + 256
  its_cost = by (its_occasion w)
    where
      by : GivenWalk c os (length t) (length ms) (length ch) (Ok tt) → thirds ≤ 3 * length os + 16 * f.corners + 256
      by (goal.accepted g a) = omega (arith, its-sum, its-corners, four_and_start g (length os) (omega arith))

  few_corners : f.corners ≤ suc (length os)
  few_corners =
      let s = steps_after os (length os) in
      omega (arith, its-corners, length_visited_le (corners_from c s), length-corners_from c s, length-survivors [] (take (length os) os), ap length (take-length os))

  pub its_line : sum_to (length os) (λ k. get_or ms' (mark_words * k + 2) 0) ≤ 19 * length os + 272
  its_line = omega (arith, its_cost, few_corners)

pub its_cost_origin : {os t ms ch t' ms' ch' : List ℕ} {f : Facts} → WalkIs origin os t ms ch (Ok f) t' ms' ch' → Below 4 os → sum_to (length os) (λ k. get_or ms' (mark_words * k + 2) 0) + 12 ≤ 3 * length os + 16 * f.corners
its_cost_origin {os} w b = omega (arith, its-sum w b, its-corners w b, four_less-three os (length os))
