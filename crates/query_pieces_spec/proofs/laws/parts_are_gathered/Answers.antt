use Rattle.query_pieces_spec.proofs.Gatherings.{nothing_gathered, more_gathered, read_gathered}
use Rattle.query_pieces_spec.proofs.laws.parts_are_gathered.Goals as goal

pub returns-clause-nothing : goal.returns-clause-nothing
returns-clause-nothing c = λ relation. nothing_gathered relation

pub returns-clause-more : goal.returns-clause-more
returns-clause-more c = λ relation parts entries p news g h.
    more_gathered relation parts entries p news g h

pub returns-clause-read : goal.returns-clause-read
returns-clause-read c = λ book past query parts entries g all.
    read_gathered book past query parts entries g all
