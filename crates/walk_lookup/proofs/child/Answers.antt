-- `walk_lookup::child` meets its contract.
use mathlib.Core.List.{List}
use mathlib.Core.Path.{◌≡◌, refl, ap, sym, subst, ◌∙◌}
use Prim.Native.Nat.{ℕ, ◌+◌, ◌-◌, max}
use native.Mathlib.Omega.{arith}
use lib.ListN.{length, set}
use Rattle.layout.specs.Table.{word_at, parent_word, need_word}
use Rattle.table_laws.specs.Model.{Out, out, child_in}
use Rattle.tree_laws.specs.State.{Made, grown}
use Rattle.table_laws.proofs.LastLaws.{child_last}
use Rattle.table_laws.proofs.Cites.{child_is, child_full, child_makes, child_holds}
use Rattle.walk_lookup.proofs.child.Goals as goal

-- the answer and the table are those of `child_in`
told : {o : Out} (t : List ℕ) (n u f s a m : ℕ) (t' : List ℕ) → child_in t n u f s ≡ o → o ≡ out t' a m → (t' ≡ (child_in t n u f s).table) × (a ≡ (child_in t n u f s).at)
told t n u f s a m t' e q = (sym (ap (λ (o : Out). o.table) (e ∙ q)), sym (ap (λ (o : Out). o.at) (e ∙ q)))

three : (t : List ℕ) (n u f s : ℕ) {t₁ t₂ t₃ : List ℕ} → t₁ ≡ set t (word_at u f) (n + 1) → t₂ ≡ set t₁ (word_at n parent_word) (u + 1) → t₃ ≡ set t₂ (word_at n need_word) s → t₃ ≡ set (set (set t (word_at u f) (n + 1)) (word_at n parent_word) (u + 1)) (word_at n need_word) s
three t n u f s e₁ e₂ e₃ = cc

pub returns-then-known-ne0 : goal.returns-then-known-ne0
returns-then-known-ne0 c =
    let w = c.word-known in
    let t = c.args.t.now in
    let n = c.args.nodes in
    let q = child_is t n c.args.u c.args.place c.args.step w.result w.ensures
    (λ z. omega arith) in
    let m : w.result ≡ w.result - 1 + 1 = omega arith in
    let k = told t n c.args.u c.args.place c.args.step w.result n t q refl in
    record {
      made = (λ S e h deep r p. subst (λ (a : ℕ). Made (length t) (grown S e c.args.step) e t a (max n a)) m
          (child_last t n S h (length t) c.args.step t w.result n e (child_holds t n c.args.u c.args.place c.args.step S e h deep r p (out t w.result n) q)));
      t_after = (k.0, sym m ∙ k.1);
    }

pub returns-then-t-nodes : goal.returns-then-t-nodes
returns-then-t-nodes c =
    let w = c.word-known in
    let t = c.args.t.now in
    let n = c.args.nodes in
    let z : w.result ≡ 0 = omega arith in
    let q = child_full t n c.args.u c.args.place c.args.step (sym z ∙ w.ensures)
    (omega arith) in
    record {
      made = (λ S e h deep r p. child_last t n S h (length t) c.args.step t 0 n e (child_holds t n c.args.u c.args.place c.args.step S e h deep r p (out t 0 n) q));
      t_after = told t n c.args.u c.args.place c.args.step 0 n t q refl;
    }

pub returns : goal.returns
returns c =
    let w = c.word-known in
    let t = c.args.t.now in
    let z : w.result ≡ 0 = omega arith in
    let n = c.args.nodes in
    let e = three t n c.args.u c.args.place c.args.step c.put.ensures
    c.put-2.ensures c.put-3.ensures in
    let q = child_makes t n c.args.u c.args.place c.args.step (sym z ∙ w.ensures) (omega arith) in
    record {
      made = (λ S x h deep r p. child_last t n S h (length t) c.args.step _ (n + 1) (n + 1) x
          (subst (λ (l : List ℕ). Made (length t) (grown S x c.args.step) x l (n + 1) (n + 1)) (sym e)
          (child_holds t n c.args.u c.args.place c.args.step S x h deep r p (out (set (set (set t (word_at c.args.u c.args.place) (n + 1)) (word_at n parent_word) (c.args.u + 1)) (word_at n need_word) c.args.step) (n + 1) (n + 1)) q)));
      t_after = told t n c.args.u c.args.place c.args.step (n + 1) (n + 1) c.put-3.new.t q
          (ap (λ (x : List ℕ). out x (n + 1) (n + 1)) (sym e));
    }
