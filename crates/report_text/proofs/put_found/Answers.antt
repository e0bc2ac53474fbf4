-- The words are those of the times, or the one of a miss.
use Rattle.std.proofs.lemmas.List.Folds.{flat_map-map}
use Rattle.report_text.specs.Inside.Lines.{found_words}
use Rattle.report_text.proofs.put_found.Goals as goal

pub returns-in-Some-clause-text : goal.returns-in-Some-clause-text
unfolding found_words
returns-in-Some-clause-text c = rw (c.in-Some.is, flat_map-map) c.put_times.ensures.text

pub returns-in-None-clause-text : goal.returns-in-None-clause-text
unfolding found_words
returns-in-None-clause-text c = rw c.in-None.is c.put_word.ensures
