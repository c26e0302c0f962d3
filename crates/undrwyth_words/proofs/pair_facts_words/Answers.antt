-- `undrwyth_words::pair_facts_words` meets its contract.
use Rattle.undrwyth_words.proofs.WordLaws.{pair_words}
use Rattle.undrwyth_words.proofs.pair_facts_words.Goals as goal

pub returns : goal.returns
returns c =
    let a = c.party_words-a in
    let b = c.party_words-b in
    pair_words c.args.f a.result b.result a.ensures b.ensures
