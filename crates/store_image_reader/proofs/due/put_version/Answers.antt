use Rattle.std.proofs.Common.{rules, ◌≡◌, ◌+◌, ◌++◌, ℕ, Bool, List, [], ◌∷◌, map, length, vec_len}
use Rattle.std.proofs.Common.{sym, ap, ◌∙◌}
use Rattle.std.proofs.Common.{arith}
use Rattle.std.proofs.lemmas.List.{length-map}
use Rattle.std.specs.List.{filter}
use Rattle.std.specs.FinMap.{entries}
use Rattle.std.proofs.lemmas.Result.{on_ok_weaker}
use Rattle.prima_base.specs.Columns.{Column}
use Rattle.smo_ops_spec.specs.Preconditions.{among}
use Rattle.smo_ops_spec.specs.Touching.{makes, consumes}
use Rattle.smo_ops_spec.specs.Evolutions.{one_makes, one_consumes}
use Rattle.smo_ops_spec.proofs.OneMembers.{one_makes_of_one, one_consumes_of_one}
use Rattle.smo_ops_types.specs.Operators.{operator_of}
use Rattle.smo_ops_versions_spec.specs.Lifelines.{line_after, line_begun}
use Rattle.smo_ops_operators.specs.Names.{is_one_of}
use Rattle.store_image_reader.specs.Seen.{line_seen}
use Rattle.store_image_reader.proofs.ListPlaces.{written_back}
use Rattle.store_image_reader.proofs.due.put_version.Goals as goal

pub returns : goal.returns
returns c = λ tables.
    let op = operator_of c.args.version.now.op in
    let ends : (λ (n : List ℕ). consumes tables op n)
    ≡ (λ (n : List ℕ). one_consumes tables (op ∷ []) n)
    = λ i n. sym (one_consumes_of_one tables op n) i in
    let makes_it : (λ (n : List ℕ). makes tables op n)
    ≡ (λ (n : List ℕ). one_makes tables (op ∷ []) n)
    = λ i n. sym (one_makes_of_one tables op n) i in
    let old = map line_seen c.args.lines.now.items in
    let es = entries c.args.version.now.schema in
    let begun = map (line_begun (c.args.before + 1))
    (filter (λ (e : List ℕ × List Column). is_one_of c.made.result e.0) es) in
    let was = ap length c.deref_mut.ensures.value in
    let many = ap length c.end_lines.ensures in
    let a = length-map c.end_lines.new.lines line_seen in
    let b = length-map (map line_seen c.deref_mut.result.now)
    (line_after (is_one_of c.consumed.result) c.args.before) in
    let d = length-map c.deref_mut.result.now line_seen in
    let full : vec_len c.args.lines.now ≡ length c.args.lines.now.items = search rules in
    let written = written_back c.end_lines.new.lines c.args.lines.now.items
    (vec_len c.args.lines.now) full (omega (arith, was, many, a, b, d)) in
    on_ok_weaker c.begin_lines.result
    (λ e. e ∙ ap (λ l. map line_seen l ++ begun) written
    ∙ ap (λ l. l ++ begun) (c.end_lines.ensures
    ∙ ap (λ l. map (line_after (is_one_of c.consumed.result) c.args.before) (map line_seen l))
    c.deref_mut.ensures.value)
    ∙ ap (λ (ns : List (List ℕ)). map (line_after (λ n. among n ns) c.args.before) old ++ begun)
    (sym (c.consumed.ensures.names tables))
    ∙ ap (λ (ns : List (List ℕ)). map (line_after
    (consumes tables op) c.args.before) old
    ++ map (line_begun (c.args.before + 1))
    (filter (λ (t : List ℕ × List Column). among t.0 ns) es))
    (sym (c.made.ensures.names tables))
    ∙ ap (λ (f : List ℕ → Bool). map (line_after f c.args.before) old
    ++ map (line_begun (c.args.before + 1))
    (filter (λ (t : List ℕ × List Column). makes tables op t.0) es)) ends
    ∙ ap (λ (f : List ℕ → Bool).
    map (line_after (one_consumes tables (op ∷ [])) c.args.before) old
    ++ map (line_begun (c.args.before + 1))
    (filter (λ (t : List ℕ × List Column). f t.0) es)) makes_it)
    c.begin_lines.ensures
