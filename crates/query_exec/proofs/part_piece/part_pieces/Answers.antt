use Rattle.std.proofs.Common.{List, sym, ap, subst, ◌∙◌}
use Rattle.std.specs.List.{filter}
use Rattle.schema_catalog.specs.Tables.{Tables}
use Rattle.smo_ops_spec.specs.Past.{no_tables, tables_from}
use Rattle.version_groups.specs.Groups.{versions_in}
use Rattle.piece_ir_spec.specs.Pieces.{PlainPiece}
use Rattle.piece_ir_spec.specs.Typed.{AllTyped}
use Rattle.piece_ir.specs.Shown.{shown_pieces}
use Rattle.piece_prune.specs.DeadPieces.{LeavesLiving, lives}
use Rattle.query_exec.proofs.KnownToLive.{all_left, all_told}
use Rattle.query_exec.proofs.part_piece.part_pieces.Goals as goal

pub returns-then-pruned-clause-living : goal.returns-then-pruned-clause-living
returns-then-pruned-clause-living c =
    let tables = tables_from no_tables (versions_in c.args.groups.now) c.args.part.1 in
    subst (λ (ps : List PlainPiece). LeavesLiving tables (shown_pieces c.args.pieces.now) ps)
    (sym c.in_ok-copies.ensures)
    (all_left tables (shown_pieces c.args.pieces.now) c.requires.typed
    (c.requires.pruned c.if-pruned.true))

pub returns-then-pruned-clause-told : goal.returns-then-pruned-clause-told
returns-then-pruned-clause-told c =
    c.in_ok-copies.ensures
    ∙ all_told (tables_from no_tables (versions_in c.args.groups.now) c.args.part.1)
    (shown_pieces c.args.pieces.now) c.requires.typed (c.requires.pruned c.if-pruned.true)

pub living-pieces-requires : goal.living-pieces-requires
living-pieces-requires c =
    subst (λ (ps : List PlainPiece). AllTyped c.schema_of-schema.result.now ps)
    (sym c.in_ok-copies.ensures)
    (subst (λ (t : Tables). AllTyped t (shown_pieces c.args.pieces.now))
    (sym c.schema_of-schema.ensures) c.requires.typed)

pub returns-clause-living : goal.returns-clause-living
returns-clause-living c =
    subst (λ (t : Tables). LeavesLiving t (shown_pieces c.args.pieces.now)
    (shown_pieces c.living-pieces.result.items)) c.schema_of-schema.ensures
    (subst (λ (ps : List PlainPiece). LeavesLiving c.schema_of-schema.result.now ps
    (shown_pieces c.living-pieces.result.items)) c.in_ok-copies.ensures
    c.living-pieces.ensures.living)

pub returns-clause-told : goal.returns-clause-told
returns-clause-told c = c.living-pieces.ensures.told ∙ ap (filter lives) c.in_ok-copies.ensures
