-- How many records the last step changed, read off the table that it left: from its two ends up, level by level.
-- Assumes nothing.
use mathlib.Core.Bool.{Bool, true, false, cond, not, ◌&&◌, true≢false}
use mathlib.Core.List.{List, [], ◌∷◌, ◌++◌, Memᴰ}
use mathlib.Core.Logic.{⊎_elim}
use mathlib.Core.Path.{◌≡◌, refl, ap, sym, ◌∙◌, subst}
use Prim.Native.Nat.{ℕ, zero, suc, ◌+◌, ◌-◌, ◌<◌, ◌≤◌}
use native.Mathlib.Omega.{arith}
use borrow.Author.Tests.{eqb-true, eq-eqb, ne_eqb}
use lib.Dec.{eqb}
use lib.ListN.{length, length-append, get_or}
use Rattle.grid.specs.declared.Corner.{Corner}
use Rattle.grid.specs.Grid.{origin, same, stepped, joins, back}
use Rattle.grid.specs.Tree.{parent_of, is_root, size_of, path_of}
use Rattle.layout.specs.Table.{word_at, parent_word, neighbour_word, link_word, need_word}
use Rattle.lists.specs.Lists.{any, gather, tally}
use Rattle.tree.specs.Nodes.{links, ref_of}
use Rattle.tree_laws.specs.State.{State, Sound, WellLinked, linked, needed, link_put, table_by, links_up, is_fresh, but, risen_by}
use Rattle.grid.proofs.CornerLaws.{same_refl, same_sound}
use Rattle.grid.proofs.ParentLaws.{parent_of-stepped}
use Rattle.grid.proofs.PathLaws.{size_of-parent_of}
use Rattle.grid.proofs.StepLaws.{stepped_ne}
use Rattle.lists.proofs.FindLaws.{bool_agree, find_get}
use Rattle.lists.proofs.GatherLaws.{mem→any, mem-gather-left, mem-gather-right}
use Rattle.lists.proofs.BoolLaws.{is_false}
use Rattle.grid.proofs.JoinLaws.{joins-stepped}
use Rattle.tree.proofs.NodeLaws.{mem_path}
use Rattle.tree.proofs.RefLaws.{not_any}
use Rattle.tree_laws.proofs.AddLaws.{ref_pos}
use Rattle.tree_laws.proofs.LaterLaws.{later-old, later_new}
use Rattle.tree_laws.proofs.LevelLaws.{known_links, right-links, sibling_links, above-links, path_parent, gather_closed, good_linked}
use Rattle.tree_laws.proofs.LineageLaws.{links_here}
use Rattle.tree_laws.proofs.RiseLaws.{goes_up_lem, up_goes, up-near, risen_up, risen_top, risen_fuel}
use Rattle.table_laws.proofs.ChangeLaws.{rooted, after}
use Rattle.table_laws.proofs.StateLaws.{by-mem}
use Rattle.table_laws.proofs.CellLaws.{far_pos, read_parent, read_neighbour, read_step, read-need}

back_ne : (d : ℕ) → d < 4 → d ≡ back d → ⊥
back_ne zero h e = omega arith
back_ne (suc zero) h e = omega arith
back_ne (suc (suc zero)) h e = omega arith
back_ne (suc (suc (suc zero))) h e = omega arith
back_ne (suc (suc (suc (suc d)))) h e = omega arith

-- one number, one node
ref_one : (l : List Corner) (x y : Corner) (n : ℕ) → ref_of l x ≡ suc n → ref_of l y ≡ suc n → x ≡ y
ref_one l x y n h i = same_sound x (get_or l n origin) (find_get (same x) l n origin h).1 ∙ sym (same_sound y (get_or l n origin) (find_get (same y) l n origin i).1)

module _ (S : State) (sound : Sound S) (s d : ℕ) (pos : 0 < s) (small : d < 4) (links-less : (x y : Corner) → S.step x y < s) (needs-less : (x : Corner) → S.need x < s) where
  abbrev ns : List Corner
  ns = S.nodes

  abbrev L : Corner → Corner → ℕ
  L = S.step

  -- a pair x and its neighbour is not the pair b and its neighbour if x is smaller
  apart : (x b : Corner) → size_of x < size_of b → joins x (stepped d x) (b, stepped d b) ≡ false
  apart x b h = is_false (joins x (stepped d x) (b, stepped d b)) (λ j. ⊎_elim (λ q. omega (arith, ap size_of q.0)) (λ q. back_ne d small q.1) (joins-stepped d d x b small small j))

  link_put-apart : (M : Corner → Corner → ℕ) (x b : Corner) → size_of x < size_of b → link_put M s b (stepped d b) x (stepped d x) ≡ M x (stepped d x)
  link_put-apart M x b h = rw (apart x b h)

  unlinked : (b : Corner) → links_up L b (stepped d b) ≡ true → L b (stepped d b) ≡ 0
  unlinked b r = go (L b (stepped d b)) refl
    where
      go : (n : ℕ) → L b (stepped d b) ≡ n → L b (stepped d b) ≡ 0
      go zero z = z
      go (suc n) z = let g = goes_up_lem L b (stepped d b) r in absurd (omega (arith, g.3, sound.good.up b (stepped d b) (omega arith) g.0 g.1 g.2))

  -- above a pair that goes up the step's links are those from the parents up
  pub link_above : (b : Corner) → links_up L b (stepped d b) ≡ true → (x : Corner) → size_of x < size_of b → linked L s b (stepped d b) x (stepped d x) ≡ linked L s (parent_of b) (stepped d (parent_of b)) x (stepped d x)
  link_above b r x h =
      let g = goes_up_lem L b (stepped d b) r in
      above-links ns L sound.good s b (stepped d b) (unlinked b r) g.0 g.1 x (stepped d x)
      ∙ link_put-apart (linked L s (parent_of b) (parent_of (stepped d b))) x b h
      ∙ ap (λ (y : Corner). linked L s (parent_of b) y x (stepped d x)) (up-near L ns (rooted S sound s d pos small) d b (stepped d b) refl r)

  -- the link of the parents has the step's number exactly if the pair goes up
  pub goes_word : (b : Corner) → links_up L b (stepped d b) ≡ true → linked L s b (stepped d b) (parent_of b) (stepped d (parent_of b)) ≡ s
  goes_word b r =
      let g = goes_up_lem L b (stepped d b) r in
      let p = parent_of b in
      link_above b r p (size_of-parent_of b g.0)
      ∙ later_new (L p (stepped d p)) (links p (stepped d p) (p, stepped d p)) s (ap (L p) (sym (up-near L ns (rooted S sound s d pos small) d b (stepped d b) refl r)) ∙ g.3) (links_here p (stepped d p))

  pub stays_word : (b : Corner) → is_root b ≡ false → links_up L b (stepped d b) ≡ false → linked L s b (stepped d b) (parent_of b) (stepped d (parent_of b)) ≡ s → ⊥
  stays_word b low r w = go (L b g) refl (is_root g) refl (same p (parent_of g)) refl
    where
      g : Corner
      g = stepped d b

      p : Corner
      p = parent_of b

      q : Corner
      q = stepped d p

      less : size_of p < size_of b
      less = size_of-parent_of b low

      old : linked L s b g p q ≡ L p q → ⊥
      old e = omega (arith, links-less p q)

      go : (n : ℕ) → L b g ≡ n → (k : Bool) → is_root g ≡ k → (m : Bool) → same p (parent_of g) ≡ m → ⊥
      go (suc n) z k i m j = old (known_links ns L sound.good s b g (omega arith) p q (λ e. stepped_ne d p (sym e)))
      go zero z true i m j = old (right-links ns L sound.good s b g z i p q ∙ link_put-apart L p b less)
      go zero z false i true j = old (sibling_links ns L sound.good s b g z low i (same_sound p (parent_of g) j) p q (λ e. stepped_ne d p (sym e)) ∙ link_put-apart L p b less)
      go zero z false i false j = up (L p (parent_of g)) refl
        where
          near : parent_of g ≡ q
          near = ⊎_elim (λ u. absurd (true≢false (sym (same_refl p) ∙ ap (same p) (sym u) ∙ j))) (λ u. u) (parent_of-stepped d b)

          up : (n : ℕ) → L p (parent_of g) ≡ n → ⊥
          up zero y = true≢false (sym (up_goes L b g low i j y) ∙ r)
          up (suc n) y =
              old (above-links ns L sound.good s b g z low i p q ∙ link_put-apart (linked L s p (parent_of g)) p b less
              ∙ later-old (L p q) (links p q (p, parent_of g)) s (subst (λ (x : Corner). 0 < L p x) near (omega arith)))

  -- the step from a
  module _ (a : Corner) (from : Memᴰ a ns) where
    abbrev e : Corner
    e = stepped d a

    abbrev all : List Corner
    all = gather same ns (path_of e)

    good : WellLinked all (linked L s a e)
    good = good_linked ns L sound.good s a e from

    -- on the way up, at the nodes u and v: what is counted so far and what is above make the whole
    pub record Rising (whole u v sum : ℕ) : Type 0 where
      pub at : Corner
      pub known : Memᴰ at ns
      pub path : Memᴰ (stepped d at) (path_of e)
      pub here : ref_of all at ≡ suc u
      pub there : ref_of all (stepped d at) ≡ suc v
      pub adds : sum + length (risen_by L ns (suc (size_of at)) at (stepped d at)) ≡ whole
      pub above : (x : Corner) → size_of x < size_of at → linked L s a e x (stepped d x) ≡ linked L s at (stepped d at) x (stepped d x)

    pub rising_start : (u v : ℕ) → ref_of all a ≡ suc u → ref_of all e ≡ suc v → Rising (2 + length (risen_by L ns (suc (size_of a)) a e)) u v 2
    rising_start u v h i = record { at = a; known = from; path = mem_path e; here = h; there = i; adds = refl; above = λ x k. refl }

    module _ (words : ℕ) (t : List ℕ) (is : t ≡ table_by words (after S sound s d pos small a)) (whole u v sum : ℕ) (k : Rising whole u v sum) where
      abbrev b : Corner
      b = k.at

      abbrev g : Corner
      g = stepped d b

      abbrev W : State
      W = after S sound s d pos small a

      at_parent : (x : Corner) (n : ℕ) → ref_of all x ≡ suc n → get_or t (word_at n parent_word) 0 ≡ cond (is_root x) 0 (ref_of all (parent_of x))
      at_parent x n h = ap (λ (l : List ℕ). get_or l (word_at n parent_word) 0) is ∙ read_parent words W x n h

      at_link : (x : Corner) (n : ℕ) → ref_of all x ≡ suc n → get_or t (word_at n (link_word d)) 0 ≡ linked L s a e x (stepped d x)
      at_link x n h = ap (λ (l : List ℕ). get_or l (word_at n (link_word d)) 0) is ∙ read_step words W x n h d small

      closed : (x : Corner) → Memᴰ x all → is_root x ≡ false → Memᴰ (parent_of x) all
      closed = gather_closed ns sound.good.closed e

      mem-b : Memᴰ b all
      mem-b = mem-gather-left same same_sound same_refl ns (path_of e) k.known

      mem-g : Memᴰ g all
      mem-g = mem-gather-right same same_sound same_refl ns (path_of e) k.path

      -- the word of the parent: 0 in the root, otherwise a ref below u
      up_root : get_or t (word_at u parent_word) 0 ≡ 0 → is_root b ≡ true
      up_root z = go (is_root b) refl
        where
          go : (r : Bool) → is_root b ≡ r → is_root b ≡ true
          go true p = p
          go false p =
              let w : 0 ≡ ref_of all (parent_of b) = sym z ∙ at_parent b u k.here ∙ rw p in
              absurd (omega (arith, ref_pos all (parent_of b) (closed b mem-b p)))

      up-low : 0 < get_or t (word_at u parent_word) 0 → is_root b ≡ false
      up-low h = go (is_root b) refl
        where
          go : (r : Bool) → is_root b ≡ r → is_root b ≡ false
          go true p = let w : get_or t (word_at u parent_word) 0 ≡ 0 = at_parent b u k.here ∙ rw p in absurd (omega arith)
          go false p = p

      pub up_ref : 0 < get_or t (word_at u parent_word) 0 → (ref_of all (parent_of b) ≡ get_or t (word_at u parent_word) 0) × (get_or t (word_at u parent_word) 0 ≤ u)
      up_ref h =
          let p = up-low h in
          let w : get_or t (word_at u parent_word) 0 ≡ ref_of all (parent_of b) = at_parent b u k.here ∙ rw p in
          (sym w, omega (arith, good.order b mem-b p, k.here))

      -- the link of the parents
      link_is_lem : (p : ℕ) → get_or t (word_at u parent_word) 0 ≡ suc p → get_or t (word_at p (link_word d)) 0 ≡ linked L s b g (parent_of b) (stepped d (parent_of b))
      link_is_lem p h =
          let z : 0 < get_or t (word_at u parent_word) 0 = omega arith in
          at_link (parent_of b) p ((up_ref z).0 ∙ h) ∙ k.above (parent_of b) (size_of-parent_of b (up-low z))

      climbs : (p : ℕ) → get_or t (word_at u parent_word) 0 ≡ suc p → get_or t (word_at p (link_word d)) 0 ≡ s → links_up L b g ≡ true
      climbs p h w = go (links_up L b g) refl
        where
          go : (r : Bool) → links_up L b g ≡ r → links_up L b g ≡ true
          go true r = r
          go false r = absurd (stays_word b (up-low (omega arith)) r (sym (link_is_lem p h) ∙ w))

      pub stops-root : get_or t (word_at u parent_word) 0 ≡ 0 → links_up L b g ≡ false
      stops-root z = rw (up_root z)

      pub stops_link : (p : ℕ) → get_or t (word_at u parent_word) 0 ≡ suc p → (get_or t (word_at p (link_word d)) 0 ≡ s → ⊥) → links_up L b g ≡ false
      stops_link p h f = is_false (links_up L b g) (λ r. f (link_is_lem p h ∙ goes_word b r))

      -- the neighbour of the parent
      near-is : (p : ℕ) → get_or t (word_at u parent_word) 0 ≡ suc p → get_or t (word_at p (link_word d)) 0 ≡ s → get_or t (word_at p (neighbour_word d)) 0 ≡ ref_of all (stepped d (parent_of b))
      near-is p h w =
          let z : 0 < get_or t (word_at u parent_word) 0 = omega arith in
          let r = (up_ref z).0 ∙ h in
          ap (λ (l : List ℕ). get_or l (word_at p (neighbour_word d)) 0) is
          ∙ read_neighbour words W (parent_of b) p r d small
          ∙ far_pos (linked L s a e (parent_of b) (stepped d (parent_of b))) (ref_of all (stepped d (parent_of b))) (omega (arith, sym (at_link (parent_of b) p r) ∙ w))

      next_path : links_up L b g ≡ true → Memᴰ (stepped d (parent_of b)) (path_of e)
      next_path r = subst (λ (x : Corner). Memᴰ x (path_of e)) (up-near L ns (rooted S sound s d pos small) d b g refl r) (path_parent g e (goes_up_lem L b g r).1 k.path)

      pub near_pos : (p : ℕ) → get_or t (word_at u parent_word) 0 ≡ suc p → get_or t (word_at p (link_word d)) 0 ≡ s → 0 < get_or t (word_at p (neighbour_word d)) 0
      near_pos p h w = omega (arith, near-is p h w, ref_pos all (stepped d (parent_of b)) (mem-gather-right same same_sound same_refl ns (path_of e) (next_path (climbs p h w))))

      -- x counts unless it is y, as their refs show
      counts : (x y : Corner) (m n : ℕ) → ref_of all x ≡ suc m → ref_of all y ≡ suc n → length (but x y) ≡ tally (not (eqb m n))
      counts x y m n h i = go (same x y) refl
        where
          go : (r : Bool) → same x y ≡ r → length (cond (same x y) [] (x ∷ [])) ≡ tally (not (eqb m n))
          go true r = let q : m ≡ n = omega (arith, ap (ref_of all) (same_sound x y r)) in rw (r, eq-eqb m n q)
          go false r = rw (r, ne_eqb m n (λ q. true≢false (sym (same_refl y) ∙ ap (λ (z : Corner). same z y) (sym (ref_one all x y m h (i ∙ ap suc (sym q)))) ∙ r)))

      pub rising_next : (p q : ℕ) → get_or t (word_at u parent_word) 0 ≡ suc p → get_or t (word_at p (link_word d)) 0 ≡ s → get_or t (word_at p (neighbour_word d)) 0 ≡ suc q → (p < u) × Rising whole p q (sum + (tally (not (eqb p v)) + tally (not (eqb q u))))
      rising_next p q h w i =
          let z : 0 < get_or t (word_at u parent_word) 0 = omega arith in
          let r = climbs p h w in
          let f = goes_up_lem L b g r in
          let n = up-near L ns (rooted S sound s d pos small) d b g refl r in
          let c = parent_of b in
          let x : ref_of all c ≡ suc p = (up_ref z).0 ∙ h in
          let y : ref_of all (stepped d c) ≡ suc q = sym (near-is p h w) ∙ i in
          let rest = risen_by L ns (size_of b) c (parent_of g) in
          let same_rest : length rest ≡ length (risen_by L ns (suc (size_of c)) c (stepped d c)) = ap length (risen_fuel L ns (rooted S sound s d pos small) (size_of b) (suc (size_of c)) c (parent_of g) (size_of-parent_of b f.0) (omega arith) ∙ ap (risen_by L ns (suc (size_of c)) c) n) in (
            omega (arith, (up_ref z).1),
            record {
              at = c;
              known = sound.good.closed b k.known f.0;
              path = next_path r;
              here = x;
              there = y;
              adds =
                  omega (
                    arith,
                    k.adds,
                    ap length (risen_up L ns (rooted S sound s d pos small) (size_of b) b g r),
                    length-append (but c g) (but (parent_of g) b ++ rest),
                    length-append (but (parent_of g) b) rest,
                    same_rest,
                    counts c g p v x k.there,
                    counts (parent_of g) b q u (ap (ref_of all) n ∙ y) k.here,
                  );
              above = λ m l. k.above m (omega (arith, size_of-parent_of b f.0)) ∙ link_above b r m (omega (arith, size_of-parent_of b f.0));
            },
          )

      -- at the top: the parent of a node that is made, unless it is u
      pub rising_end : links_up L b g ≡ false → whole ≡ sum + tally (eqb (get_or t (word_at v need_word) 0) s && not (eqb (get_or t (word_at v parent_word) 0) (u + 1)))
      rising_end r = omega (arith, k.adds, ap length (risen_top L ns (rooted S sound s d pos small) (size_of b) b g r), by-mem g ns (length (cond (is_fresh ns g) (but (parent_of g) b) []) ≡ tally (eqb (get_or t (word_at v need_word) 0) s && not (eqb (get_or t (word_at v parent_word) 0) (u + 1)))) old new)
        where
          need : get_or t (word_at v need_word) 0 ≡ needed ns S.need s e g
          need = ap (λ (l : List ℕ). get_or l (word_at v need_word) 0) is ∙ read-need words W g v k.there

          old : Memᴰ g ns → length (cond (is_fresh ns g) (but (parent_of g) b) []) ≡ tally (eqb (get_or t (word_at v need_word) 0) s && not (eqb (get_or t (word_at v parent_word) 0) (u + 1)))
          old m =
              let i : any (same g) ns ≡ true = mem→any same same_sound same_refl m in
              let w : needed ns S.need s e g ≡ S.need g = rw i in
              rw (i, ne_eqb (get_or t (word_at v need_word) 0) s (λ q. omega (arith, need, w, needs-less g)))

          new : (Memᴰ g ns → ⊥) → length (cond (is_fresh ns g) (but (parent_of g) b) []) ≡ tally (eqb (get_or t (word_at v need_word) 0) s && not (eqb (get_or t (word_at v parent_word) 0) (u + 1)))
          new f =
              let i : any (same g) ns ≡ false = not_any g ns f in
              let low = rooted S sound s d pos small g (ap not i) in
              let w : needed ns S.need s e g ≡ s = rw (i, mem→any same same_sound same_refl k.path) in
              let up : get_or t (word_at v parent_word) 0 ≡ ref_of all (parent_of g) = at_parent g v k.there ∙ rw low in
              let m = ref_pos all (parent_of g) (closed g mem-g low) in
              let j = ref_of all (parent_of g) - 1 in
              let ref : ref_of all (parent_of g) ≡ suc j = omega arith in
              rw (i, eq-eqb (get_or t (word_at v need_word) 0) s (need ∙ w))
              (counts (parent_of g) b j u ref k.here ∙ ap (λ (x : Bool). tally (not x)) (bool_agree (eqb j u) (eqb (get_or t (word_at v parent_word) 0) (u + 1)) (λ q. eq-eqb (get_or t (word_at v parent_word) 0) (u + 1) (omega (arith, eqb-true j u q))) (λ q. eq-eqb j u (omega (arith, eqb-true (get_or t (word_at v parent_word) 0) (u + 1) q)))))
