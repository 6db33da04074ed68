use Rattle.line_words.proofs.moment.+parse_fraction.Given as goal

abbrev pub decreases-parse_fraction : goal.decreases-parse_fraction
decreases-parse_fraction l = l.places
