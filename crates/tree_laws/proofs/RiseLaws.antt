-- The nodes whose records a step changes: its two ends, above them the ends of the links that it makes, and the parent of the topmost node
-- that it makes. Each stands once.
-- Assumes nothing.
use mathlib.Core.Bool.{Bool, true, false, cond, not, ◌&&◌, true≢false}
use mathlib.Core.List.Memᴰ
use mathlib.Core.List.{List, [], ◌∷◌, ◌++◌, Memᴰ}
use mathlib.Core.Logic.{◌⊎◌, inl, inr, ⊎_elim}
use mathlib.Core.Path.{◌≡◌, refl, ap, sym, ◌∙◌, subst}
use Prim.Native.Nat.{ℕ, zero, suc, ◌+◌, ◌*◌, ◌<◌, ◌≤◌}
use native.Mathlib.Omega.{arith}
use borrow.Author.Tests.{eqb-true, eq-eqb}
use lib.Dec.{eqb}
use lib.ListN.{length, length-append}
use Rattle.grid.specs.declared.Corner.{Corner}
use Rattle.grid.specs.Grid.{same, stepped, back}
use Rattle.grid.specs.Tree.{parent_of, is_root, size_of, path_of, WithinLevels}
use Rattle.lists.specs.Lists.{any, gather, Distinct}
use Rattle.grid.proofs.BoundLaws.{stepped_bound}
use Rattle.grid.proofs.CornerLaws.{same_refl, same_sound}
use Rattle.grid.proofs.ParentLaws.{parent_of-stepped}
use Rattle.grid.proofs.PathLaws.{size_of-parent_of, root_of_size}
use Rattle.grid.proofs.StepLaws.{stepped-back, stepped_ne}
use Rattle.lists.proofs.GatherLaws.{and_left, and_right, any→mem, not_mem, mem-add_cases}
use Rattle.lists.proofs.BoolLaws.{not-true}
use Rattle.tree.proofs.RefLaws.{not_any}
use Rattle.tree_laws.specs.State.{WellLinked, links_up, is_fresh, but, risen_by}
use Rattle.tree_laws.proofs.CountLaws.{within_parent}
use Rattle.tree_laws.proofs.LevelLaws.{root_is, root_known, nodes_known, nodes_step}

differ : (a e : Corner) → same a e ≡ false → a ≡ e → ⊥
differ a e p q = true≢false (sym (same_refl e) ∙ ap (λ (x : Corner). same x e) (sym q) ∙ p)

pub mem-but : (x y z : Corner) → Memᴰ z (but x y) → (z ≡ x) × (x ≡ y → ⊥)
mem-but x y z m = go (same x y) refl
  where
    go : (b : Bool) → same x y ≡ b → (z ≡ x) × (x ≡ y → ⊥)
    go true p = absurd (Memᴰ.not-nil (subst (λ (b : Bool). Memᴰ z (cond b [] (x ∷ []))) p m))
    go false p = (Memᴰ.eq_of_singleton (subst (λ (b : Bool). Memᴰ z (cond b [] (x ∷ []))) p m), differ x y p)

-- x is there, or it is y
pub but-mem : (x y : Corner) (l : List Corner) → Memᴰ x (y ∷ (but x y ++ l))
but-mem x y l = go (same x y) refl
  where
    go : (b : Bool) → same x y ≡ b → Memᴰ x (y ∷ (but x y ++ l))
    go true p = Memᴰ.head (same_sound x y p)
    go false p = rw p (Memᴰ.tail (Memᴰ.head refl))

size_step : (d : ℕ) (c : Corner) → size_of (stepped d c) ≤ size_of c + 1
size_step zero c = omega (arith, (stepped_bound 0 c).0)
size_step (suc zero) c = omega (arith, (stepped_bound 1 c).1)
size_step (suc (suc zero)) c = omega (arith, (stepped_bound 2 c).0)
size_step (suc (suc (suc d))) c = omega (arith, (stepped_bound 3 c).1)

-- neighbours differ by 1 at most in size
close : (d : ℕ) (a e : Corner) → e ≡ stepped d a → (size_of a ≤ size_of e + 1) × (size_of e ≤ size_of a + 1)
close d a e p = (omega (arith, size_step (back d) e, ap size_of (ap (stepped (back d)) p ∙ stepped-back d a)), omega (arith, size_step d a, ap size_of p))

-- how x stands above a and e, in the list of k + 1 levels: as a parent of a pair that goes up, above these parents, or as the parent of the
-- topmost node that is made
pub data Above (L : Corner → Corner → ℕ) (ns : List Corner) (k : ℕ) (a e x : Corner) : Type 0 where
  over-a : links_up L a e ≡ true → x ≡ parent_of a → (parent_of a ≡ e → ⊥) → Above L ns k a e x
  over-e : links_up L a e ≡ true → x ≡ parent_of e → (parent_of e ≡ a → ⊥) → Above L ns k a e x
  higher : links_up L a e ≡ true → Memᴰ x (risen_by L ns k (parent_of a) (parent_of e)) → Above L ns k a e x
  topmost : is_fresh ns e ≡ true → x ≡ parent_of e → (parent_of e ≡ a → ⊥) → Above L ns k a e x

module _ (L : Corner → Corner → ℕ) where
  pub goes_up_lem : (a e : Corner) → links_up L a e ≡ true → (is_root a ≡ false) × (is_root e ≡ false) × (parent_of a ≡ parent_of e → ⊥) × (L (parent_of a) (parent_of e) ≡ 0)
  goes_up_lem a e h =
      let x = not (is_root a) in
      let y = not (is_root e) in
      let z = not (same (parent_of a) (parent_of e)) in
      let w = eqb (L (parent_of a) (parent_of e)) 0 in
      let i = and_left (x && y && z) w h in
      let j = and_left (x && y) z i in (
        not-true (is_root a) (and_left x y j),
        not-true (is_root e) (and_right x y j),
        differ (parent_of a) (parent_of e) (not-true (same (parent_of a) (parent_of e)) (and_right (x && y) z i)),
        eqb-true (L (parent_of a) (parent_of e)) 0 (and_right (x && y && z) w h),
      )

  pub up_goes : (a e : Corner) → is_root a ≡ false → is_root e ≡ false → same (parent_of a) (parent_of e) ≡ false → L (parent_of a) (parent_of e) ≡ 0 → links_up L a e ≡ true
  up_goes a e i j k z = rw (i, j, k, z, eq-eqb 0 0 refl)

  module _ (ns : List Corner) (rooted : (e : Corner) → is_fresh ns e ≡ true → is_root e ≡ false) where
    -- the list of one level
    pub risen_up : (k : ℕ) (a e : Corner) → links_up L a e ≡ true → risen_by L ns (suc k) a e ≡ but (parent_of a) e ++ (but (parent_of e) a ++ risen_by L ns k (parent_of a) (parent_of e))
    risen_up k a e p = ap (λ (b : Bool). cond b (but (parent_of a) e ++ (but (parent_of e) a ++ risen_by L ns k (parent_of a) (parent_of e))) (cond (is_fresh ns e) (but (parent_of e) a) [])) p

    pub risen_top : (k : ℕ) (a e : Corner) → links_up L a e ≡ false → risen_by L ns (suc k) a e ≡ cond (is_fresh ns e) (but (parent_of e) a) []
    risen_top k a e p = ap (λ (b : Bool). cond b (but (parent_of a) e ++ (but (parent_of e) a ++ risen_by L ns k (parent_of a) (parent_of e))) (cond (is_fresh ns e) (but (parent_of e) a) [])) p

    -- it does not matter by how much the number of levels is too large
    pub risen_fuel : (k j : ℕ) (a e : Corner) → size_of a < k → size_of a < j → risen_by L ns k a e ≡ risen_by L ns j a e
    risen_fuel zero j a e h i = absurd (omega arith)
    risen_fuel (suc k) zero a e h i = absurd (omega arith)
    risen_fuel (suc k) (suc j) a e h i = go (links_up L a e) refl (risen_fuel k j (parent_of a) (parent_of e))
      where
        go : (b : Bool) → links_up L a e ≡ b → (size_of (parent_of a) < k → size_of (parent_of a) < j → risen_by L ns k (parent_of a) (parent_of e) ≡ risen_by L ns j (parent_of a) (parent_of e))
            → risen_by L ns (suc k) a e ≡ risen_by L ns (suc j) a e
        go false p ih = risen_top k a e p ∙ sym (risen_top j a e p)
        go true p ih =
            let s = size_of-parent_of a (goes_up_lem a e p).0 in
            risen_up k a e p
            ∙ ap (λ (l : List Corner). but (parent_of a) e ++ (but (parent_of e) a ++ l)) (ih (omega arith) (omega arith))
            ∙ sym (risen_up j a e p)

    pub risen_cases : (k : ℕ) (a e x : Corner) → Memᴰ x (risen_by L ns (suc k) a e) → Above L ns k a e x
    risen_cases k a e x m = go (links_up L a e) refl
      where
        made : (b : Bool) → is_fresh ns e ≡ b → Memᴰ x (cond b (but (parent_of e) a) []) → Above L ns k a e x
        made true r n = let q = mem-but (parent_of e) a x n in topmost r q.0 q.1
        made false r n = absurd (Memᴰ.not-nil n)

        go : (b : Bool) → links_up L a e ≡ b → Above L ns k a e x
        go false r = made (is_fresh ns e) refl (subst (Memᴰ x) (risen_top k a e r) m)
        go true r =
            ⊎_elim
            (λ h. let q = mem-but (parent_of a) e x h in over-a r q.0 q.1)
            (λ h. ⊎_elim (λ i. let q = mem-but (parent_of e) a x i in over-e r q.0 q.1) (λ i. higher r i) (Memᴰ.append_cases (but (parent_of e) a) h))
            (Memᴰ.append_cases (but (parent_of a) e) (subst (Memᴰ x) (risen_up k a e r) m))

    -- what holds of the parents of what it holds of, holds of all
    pub risen_all : (P : Corner → Type 0) → ((x : Corner) → P x → is_root x ≡ false → P (parent_of x)) → (k : ℕ) (a e : Corner) → P a → P e
        → (x : Corner) → Memᴰ x (risen_by L ns k a e) → P x
    risen_all P up zero a e p q x m = absurd (Memᴰ.not-nil m)
    risen_all P up (suc k) a e p q x m = go (risen_cases k a e x m) (λ pa pe. risen_all P up k (parent_of a) (parent_of e) pa pe x)
      where
        go : Above L ns k a e x → (P (parent_of a) → P (parent_of e) → Memᴰ x (risen_by L ns k (parent_of a) (parent_of e)) → P x) → P x
        go (over-a r s t) ih = subst P (sym s) (up a p (goes_up_lem a e r).0)
        go (over-e r s t) ih = subst P (sym s) (up e q (goes_up_lem a e r).1)
        go (higher r n) ih = ih (up a p (goes_up_lem a e r).0) (up e q (goes_up_lem a e r).1) n
        go (topmost r s t) ih = subst P (sym s) (up e q (rooted e r))

    -- every node above is smaller than the greater of the two
    risen_size : (k : ℕ) (a e x : Corner) → Memᴰ x (risen_by L ns k a e) → (size_of x < size_of a) ⊎ (size_of x < size_of e)
    risen_size zero a e x m = absurd (Memᴰ.not-nil m)
    risen_size (suc k) a e x m = go (risen_cases k a e x m) (risen_size k (parent_of a) (parent_of e) x)
      where
        go : Above L ns k a e x → (Memᴰ x (risen_by L ns k (parent_of a) (parent_of e)) → (size_of x < size_of (parent_of a)) ⊎ (size_of x < size_of (parent_of e)))
            → (size_of x < size_of a) ⊎ (size_of x < size_of e)
        go (over-a r s t) ih = inl (omega (arith, ap size_of s, size_of-parent_of a (goes_up_lem a e r).0))
        go (over-e r s t) ih = inr (omega (arith, ap size_of s, size_of-parent_of e (goes_up_lem a e r).1))
        go (higher r n) ih =
            let g = goes_up_lem a e r in
            ⊎_elim (λ j. inl (omega (arith, j, size_of-parent_of a g.0))) (λ j. inr (omega (arith, j, size_of-parent_of e g.1))) (ih n)
        go (topmost r s t) ih = inr (omega (arith, ap size_of s, size_of-parent_of e (rooted e r)))

    -- neither a nor e stands above
    risen_not : (k d : ℕ) (a e : Corner) → e ≡ stepped d a → (Memᴰ a (risen_by L ns k a e) → ⊥) × (Memᴰ e (risen_by L ns k a e) → ⊥)
    risen_not zero d a e n = (Memᴰ.not-nil, Memᴰ.not-nil)
    risen_not (suc k) d a e n = ((λ m. not_a (risen_cases k a e a m)), (λ m. not_e (risen_cases k a e e m)))
      where
        c : (size_of a ≤ size_of e + 1) × (size_of e ≤ size_of a + 1)
        c = close d a e n

        not_a : Above L ns k a e a → ⊥
        not_a (over-a r s t) = omega (arith, ap size_of s, size_of-parent_of a (goes_up_lem a e r).0)
        not_a (over-e r s t) = t (sym s)
        not_a (higher r m) =
            let g = goes_up_lem a e r in
            ⊎_elim (λ h. omega (arith, h, size_of-parent_of a g.0)) (λ h. omega (arith, h, size_of-parent_of e g.1, c.1)) (risen_size k (parent_of a) (parent_of e) a m)
        not_a (topmost r s t) = t (sym s)

        not_e : Above L ns k a e e → ⊥
        not_e (over-a r s t) = t (sym s)
        not_e (over-e r s t) = omega (arith, ap size_of s, size_of-parent_of e (goes_up_lem a e r).1)
        not_e (higher r m) =
            let g = goes_up_lem a e r in
            ⊎_elim (λ h. omega (arith, h, size_of-parent_of a g.0, c.0)) (λ h. omega (arith, h, size_of-parent_of e g.1)) (risen_size k (parent_of a) (parent_of e) e m)
        not_e (topmost r s t) = omega (arith, ap size_of s, size_of-parent_of e (rooted e r))

    -- the parents of a pair that goes up are neighbours, too
    pub up-near : (d : ℕ) (a e : Corner) → e ≡ stepped d a → links_up L a e ≡ true → parent_of e ≡ stepped d (parent_of a)
    up-near d a e n r = ⊎_elim (λ h. absurd ((goes_up_lem a e r).2 (sym (ap parent_of n ∙ h)))) (λ h. ap parent_of n ∙ h) (parent_of-stepped d a)

    -- all of them stand once
    pub risen_once : (k d : ℕ) (a e : Corner) → e ≡ stepped d a → Distinct (a ∷ e ∷ risen_by L ns k a e)
    risen_once zero d a e n = (λ m. ⊎_elim (λ q. stepped_ne d a (sym (q ∙ n))) Memᴰ.not-nil (Memᴰ.cases_cons m), (Memᴰ.not-nil, tt))
    risen_once (suc k) d a e n = (front, ((risen_not (suc k) d a e n).1, rest (links_up L a e) refl (risen_once k d (parent_of a) (parent_of e))))
      where
        front : Memᴰ a (e ∷ risen_by L ns (suc k) a e) → ⊥
        front m = ⊎_elim (λ q. stepped_ne d a (sym (q ∙ n))) (risen_not (suc k) d a e n).0 (Memᴰ.cases_cons m)

        two : (x y : Corner) (l : List Corner) (p q : Bool) → Distinct (x ∷ y ∷ l) → Distinct (cond p [] (x ∷ []) ++ (cond q [] (y ∷ []) ++ l))
        two x y l true true w = w.1.1
        two x y l true false w = w.1
        two x y l false true w = ((λ m. w.0 (Memᴰ.tail m)), w.1.1)
        two x y l false false w = w

        single : (x : Corner) (p q : Bool) → Distinct (cond p (cond q [] (x ∷ [])) [])
        single x true true = tt
        single x true false = (Memᴰ.not-nil, tt)
        single x false q = tt

        rest : (b : Bool) → links_up L a e ≡ b → (parent_of e ≡ stepped d (parent_of a) → Distinct (parent_of a ∷ parent_of e ∷ risen_by L ns k (parent_of a) (parent_of e))) → Distinct (risen_by L ns (suc k) a e)
        rest false r ih = rw (risen_top k a e r) (single (parent_of e) (is_fresh ns e) (same (parent_of e) a))
        rest true r ih = rw (risen_up k a e r) (two (parent_of a) (parent_of e) (risen_by L ns k (parent_of a) (parent_of e)) (same (parent_of a) e) (same (parent_of e) a) (ih (up-near d a e n r)))

    -- at most two for each level above, and one
    pub risen_few : (n k d : ℕ) (a e : Corner) → e ≡ stepped d a → WithinLevels n a → WithinLevels n e → length (risen_by L ns k a e) + 1 ≤ 2 * n
    risen_few zero k d a e p v w = absurd (stepped_ne d a (sym p ∙ root_is e (root_of_size e (omega (arith, w.x, w.y))) ∙ sym (root_is a (root_of_size a (omega (arith, v.x, v.y))))))
    risen_few (suc n) zero d a e p v w = omega arith
    risen_few (suc n) (suc k) d a e p v w = go (links_up L a e) refl (λ q. risen_few n k d (parent_of a) (parent_of e) q (within_parent n a v) (within_parent n e w))
      where
        short : (x y : Corner) → length (but x y) ≤ 1
        short x y = by (same x y)
          where
            by : (b : Bool) → length (cond b [] (x ∷ [])) ≤ 1
            by true = omega arith
            by false = omega arith

        single : (b : Bool) → length (cond b (but (parent_of e) a) []) ≤ 1
        single true = short (parent_of e) a
        single false = omega arith

        go : (b : Bool) → links_up L a e ≡ b → (parent_of e ≡ stepped d (parent_of a) → length (risen_by L ns k (parent_of a) (parent_of e)) + 1 ≤ 2 * n) → length (risen_by L ns (suc k) a e) + 1 ≤ 2 * suc n
        go false r ih = omega (arith, ap length (risen_top k a e r), single (is_fresh ns e))
        go true r ih =
            let l = risen_by L ns k (parent_of a) (parent_of e) in
            omega (
              arith,
              ap length (risen_up k a e r),
              length-append (but (parent_of a) e) (but (parent_of e) a ++ l),
              length-append (but (parent_of e) a) l,
              short (parent_of a) e,
              short (parent_of e) a,
              ih (up-near d a e p r),
            )

    -- every node that the step makes is there
    module _ (good : WellLinked ns L) where
      known : {P : Type 0} (c : Corner) → (Memᴰ c ns → P) → ((Memᴰ c ns → ⊥) → P) → P
      known {P} c f g = go (any (same c) ns) refl
        where
          go : (b : Bool) → any (same c) ns ≡ b → P
          go true p = f (any→mem same same_sound same_refl c ns p)
          go false p = g (not_mem same same_sound same_refl c ns p)

      old : (c x : Corner) → (Memᴰ x ns → ⊥) → Memᴰ c ns → Memᴰ x (gather same ns (path_of c)) → ⊥
      old c x f j l = f (subst (Memᴰ x) (nodes_known ns good.closed c j) l)

      -- a node whose parent is made has a pair that goes up
      made_up : (d : ℕ) (a e : Corner) → e ≡ stepped d a → Memᴰ a ns → is_root e ≡ false → (Memᴰ (parent_of e) ns → ⊥) → links_up L a e ≡ true
      made_up d a e n i low j = go (is_root a) refl (same (parent_of a) (parent_of e)) refl (L (parent_of a) (parent_of e)) refl
        where
          go : (b : Bool) → is_root a ≡ b → (c : Bool) → same (parent_of a) (parent_of e) ≡ c → (q : ℕ) → L (parent_of a) (parent_of e) ≡ q → links_up L a e ≡ true
          go true r c t q z =
              let size : size_of (parent_of e) ≡ 0 = omega (arith, ap size_of (root_is a r), size_of-parent_of e low, (close d a e n).1) in
              absurd (j (Memᴰ.cast (root_is (parent_of e) (root_of_size (parent_of e) size)) (root_known ns L good)))
          go false r true t q z = absurd (j (Memᴰ.cast (sym (same_sound (parent_of a) (parent_of e) t)) (good.closed a i r)))
          go false r false t (suc q) z = absurd (j (good.ends (parent_of a) (parent_of e) (omega arith)).1)
          go false r false t zero z = up_goes a e r low t z

      pub risen_new : (k d : ℕ) (a e : Corner) → e ≡ stepped d a → size_of a < k → Memᴰ a ns → (x : Corner) → Memᴰ x (gather same ns (path_of e)) → (Memᴰ x ns → ⊥) → Memᴰ x (e ∷ risen_by L ns k a e)
      risen_new zero d a e n h i x m f = absurd (omega arith)
      risen_new (suc k) d a e n h i x m f =
          known e (λ j. absurd (old e x f j m))
          (λ g. fresh g (rooted e (ap not (not_any e ns g))) (λ p q r l. risen_new k d (parent_of a) (parent_of e) p q r x l f))
        where
          fresh : (Memᴰ e ns → ⊥) → is_root e ≡ false
              → (parent_of e ≡ stepped d (parent_of a) → size_of (parent_of a) < k → Memᴰ (parent_of a) ns → Memᴰ x (gather same ns (path_of (parent_of e))) → Memᴰ x (parent_of e ∷ risen_by L ns k (parent_of a) (parent_of e)))
              → Memᴰ x (e ∷ risen_by L ns (suc k) a e)
          fresh g low ih =
              ⊎_elim
              (λ l. known (parent_of e) (λ j. absurd (old (parent_of e) x f j l)) (λ j. above l (made_up d a e n i low j)))
              (λ q. Memᴰ.head q)
              (mem-add_cases same same_sound same_refl (gather same ns (path_of (parent_of e))) e (subst (Memᴰ x) (nodes_step ns e low) m))
            where
              above : Memᴰ x (gather same ns (path_of (parent_of e))) → links_up L a e ≡ true → Memᴰ x (e ∷ risen_by L ns (suc k) a e)
              above l p =
                  let r = (goes_up_lem a e p).0 in
                  rw (risen_up k a e p)
                  (Memᴰ.tail (Memᴰ.append_right (but (parent_of a) e)
                  (⊎_elim
                  (λ u. ⊎_elim (λ v. absurd (f (Memᴰ.cast (u ∙ v) i))) (λ v. Memᴰ.cast u v) (Memᴰ.cases_cons (but-mem (parent_of e) a (risen_by L ns k (parent_of a) (parent_of e)))))
                  (λ u. Memᴰ.append_right (but (parent_of e) a) u)
                  (Memᴰ.cases_cons (ih (up-near d a e n p) (omega (arith, size_of-parent_of a r)) (good.closed a i r) l)))))
