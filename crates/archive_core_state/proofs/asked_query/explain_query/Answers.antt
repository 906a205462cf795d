use Rattle.std.proofs.Common.{◌≡◌, ◌∙◌, List, ap, sym, subst}
use Rattle.smo_ops_types.specs.Commands.{PlainVersion}
use Rattle.smo_ops_spec.specs.Past.{tables_of}
use Rattle.temporal_lang_spec.specs.Atoms.{with_atoms}
use Rattle.temporal_lang_types.specs.Queries.{PlainQuery, query_of}
use Rattle.version_groups.specs.Groups.{versions_in}
use Rattle.piece_ir_spec.specs.Books.{book_of}
use Rattle.piece_ir.specs.ExplainedPieces.{all_explained}
use Rattle.query_exec.specs.QueryPieces.{ArePieces, living_pieces}
use Rattle.query_exec.specs.ToldMeanings.{MeanWhatIsAsked}
use Rattle.archive_core_state.specs.Asking.{IsQueryPrepared}
use Rattle.archive_core_state.proofs.asked_query.explain_query.Goals as goal

pub explain-requires-clause-answerable : goal.explain-requires-clause-answerable
explain-requires-clause-answerable g c =
    let past = c.requires.represents.0 in
    let represents = c.requires.represents.1 in
    let h : IsQueryPrepared past (query_of c.args.query.now) c.in_ok-atoms.atoms =
    c.in_ok-atoms.ensures past represents in
    record {
      past = past;
      asked = query_of c.args.query.now;
      represents = represents;
      accepted =
          record { accepted = h.accepted; atoms = h.atoms };
    }

pub returns : goal.returns
returns g c = λ past represents.
    let query = query_of c.args.query.now in
    let h : IsQueryPrepared past query c.in_ok-atoms.atoms =
    c.in_ok-atoms.ensures past represents in
    record {
      accepted = h.accepted;
      are = subst (λ (vs : List PlainVersion).
          ArePieces (book_of g.R.Rule.handles g.R.Rule.answers c.args.book.now.rules.items)
          vs (with_atoms (tables_of past query.version) query)
          (all_explained c.in_ok-pieces.pieces.items)) represents.versions
          (subst (λ (q : PlainQuery). ArePieces
          (book_of g.R.Rule.handles g.R.Rule.answers c.args.book.now.rules.items)
          (versions_in c.args.groups.now) q
          (all_explained c.in_ok-pieces.pieces.items)) h.atoms c.in_ok-pieces.ensures.are);
      told = c.in_ok-pieces.ensures.told
          ∙ ap (λ (q : PlainQuery). living_pieces
          (book_of g.R.Rule.handles g.R.Rule.answers c.args.book.now.rules.items)
          (versions_in c.args.groups.now) q) h.atoms
          ∙ ap (λ (vs : List PlainVersion). living_pieces
          (book_of g.R.Rule.handles g.R.Rule.answers c.args.book.now.rules.items) vs
          (with_atoms (tables_of past query.version) query))
          represents.versions;
      meant = subst (λ (q : PlainQuery). MeanWhatIsAsked past.versions q
          (all_explained c.in_ok-pieces.pieces.items)) h.atoms
          (c.in_ok-pieces.ensures.meant past query represents
          (record { accepted = h.accepted; atoms = h.atoms }));
    }
