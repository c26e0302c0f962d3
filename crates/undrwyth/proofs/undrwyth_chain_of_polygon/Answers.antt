-- `undrwyth::undrwyth_chain_of_polygon` meets its contract.
use Rattle.undrwyth_words.proofs.WordLaws.{given_first}
use Rattle.undrwyth.proofs.BoundaryLaws.{given_fits}
use Rattle.undrwyth.proofs.undrwyth_chain_of_polygon.Goals as goal

pub given_words-words-requires : goal.given_words-words-requires
given_words-words-requires c =
    let a = c.args in
    let w = c.read-g in
    given_fits a.file.now a.chain.now w.result w.new.chain w.ensures

pub returns : goal.returns
returns c =
    let w = c.read-g in
    record {
      answer = w.result;
      read = w.ensures;
      words_are = c.given_words-words.ensures;
      result = given_first w.result c.given_words-words.result c.given_words-words.ensures;
    }
