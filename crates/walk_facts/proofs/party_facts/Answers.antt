-- `walk_facts::party_facts` meets its contract.
use mathlib.Core.Path.{refl, ◌∙◌}
use mir.Syntax.{w32}
use mir.Val.{to_z, of_z}
use Rattle.grid.proofs.CornerLaws.{equal_same}
use Rattle.walk_corner.proofs.SignedLaws.{back}
use Rattle.walk_facts.proofs.FactLaws.{party_are}
use Rattle.walk_facts.proofs.party_facts.Goals as goal

pub returns : goal.returns
returns c =
    let a = c.args in
    λ ds k. party_are a.start a.chain.now ds a.n a.last a.tally k c.verdict-v.result
    c.eq.result (to_z w32 (of_z w32 c.area-a.result)) (c.eq.ensures ∙ equal_same a.last a.start) c.verdict-v.ensures
    (back c.area-a.result c.area-a.type_inv ∙ c.area-a.ensures) _ refl
