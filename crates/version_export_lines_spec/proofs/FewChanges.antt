-- A line that is no longer than a statement may be has no more changes than a command may have:
-- each takes 16 bytes at least.
use Rattle.std.specs.Prelude.{◌≤◌, ◌+◌, ◌*◌, ◌++◌, ℕ, List, [], ◌∷◌, length, codes, map}
use Rattle.std.specs.Prelude.{decimal}
use Rattle.std.proofs.Common.{arith, length-append}
use Rattle.smo_ops_types.specs.Changes.{PlainChange, insertion, deletion, update}
use Rattle.smo_ops_types.specs.Commands.{PlainBody, changing, evolving, PlainCommand}
use Rattle.smo_ops_spec.specs.Checks.{pair_names}
use Rattle.smo_parse.specs.TreeTexts.{value_text}
use Rattle.smo_parse.specs.Texts.{listed, part_text, cond_text}
use Rattle.version_export_past_spec.specs.Rebuilt.{FewChanges, AllFew}
use Rattle.version_export_lines_spec.specs.Lines.{change_text, then_texts, changes_text}
use Rattle.version_export_lines_spec.specs.Lines.{cell_values, set_text}
use Rattle.version_export_lines_spec.specs.Read.{IsShort, AllShort}

-- a text is no shorter than its first part, nor than its last one
longer : (a b : List ℕ) → length a ≤ length (a ++ b)
longer a b = let e = length-append a b in omega (arith, e)

last_longer : (a b : List ℕ) → length b ≤ length (a ++ b)
last_longer a b = let e = length-append a b in omega (arith, e)

first_ten : (c : PlainChange) → 10 ≤ length (change_text c)
first_ten (insertion t cells) =
    let a = longer (codes "INSERT INTO ") (part_text t (pair_names cells)) in
    let b = longer (codes "INSERT INTO " ++ part_text t (pair_names cells)) (codes " VALUES (") in
    let c = longer (codes "INSERT INTO " ++ part_text t (pair_names cells) ++ codes " VALUES (")
    (listed (map value_text (cell_values cells))) in
    let d = longer (codes "INSERT INTO " ++ part_text t (pair_names cells) ++ codes " VALUES ("
    ++ listed (map value_text (cell_values cells))) (codes ")") in
    omega (arith, a, b, c, d)
first_ten (deletion t c) =
    let a = longer (codes "DELETE FROM ") t in
    let b = longer (codes "DELETE FROM " ++ t) (codes " WHERE ") in
    let d = longer (codes "DELETE FROM " ++ t ++ codes " WHERE ") (cond_text c) in
    omega (arith, a, b, d)
first_ten (update t sets c) =
    let a = longer (codes "UPDATE ") t in
    let b = length-append (codes "UPDATE " ++ t) (codes " SET ") in
    let d = longer (codes "UPDATE " ++ t ++ codes " SET ") (listed (map set_text sets)) in
    let e = longer (codes "UPDATE " ++ t ++ codes " SET " ++ listed (map set_text sets))
    (codes " WHERE ") in
    let f = longer (codes "UPDATE " ++ t ++ codes " SET " ++ listed (map set_text sets)
    ++ codes " WHERE ") (cond_text c) in
    omega (arith, a, b, d, e, f)

then_sixteen : (changes : List PlainChange) → 16 * length changes ≤ length (then_texts changes)
then_sixteen [] = omega arith
then_sixteen (c ∷ changes) =
    let a = length-append (codes " THEN " ++ change_text c) (then_texts changes) in
    let b = length-append (codes " THEN ") (change_text c) in
    let d = first_ten c in
    let e = then_sixteen changes in
    omega (arith, a, b, d, e)

all_sixteen : (changes : List PlainChange) → 16 * length changes ≤ length (changes_text changes) + 6
all_sixteen [] = omega arith
all_sixteen (c ∷ changes) =
    let a = length-append (change_text c) (then_texts changes) in
    let d = first_ten c in
    let e = then_sixteen changes in
    omega (arith, a, d, e)

one_few : (stamp : ℕ) (body : PlainBody) → IsShort (record { stamp = stamp; body = body })
    → FewChanges body
one_few stamp (evolving op inverse) h = tt
one_few stamp (changing changes) h =
    let a = last_longer (codes "AT " ++ decimal stamp ++ codes " ") (changes_text changes) in
    let b = all_sixteen changes in
    omega (arith, a, b, h)

pub short_few : (commands : List PlainCommand) → AllShort commands → AllFew commands
short_few [] h = tt
short_few (c ∷ commands) h = (one_few c.stamp c.body h.0, short_few commands h.1)
