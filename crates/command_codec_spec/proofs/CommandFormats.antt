-- The readers of operators, changes and commands are good for their formats.
use Rattle.std.proofs.Common.{◌≡◌, ℕ, zero, suc, ◌*◌, ◌^◌, ◌<◌, ◌≤◌, true, List, [], ◌∷◌, ◌++◌}
use Rattle.std.proofs.Common.{length, refl, ap, ◌∙◌, subst, arith}
use Rattle.std.specs.List.{AllByRecursion}
use Rattle.std.proofs.lemmas.Bool.{leb-true}
use Rattle.prima_base.specs.Bytes.{IsName}
use Rattle.prima_base.specs.Columns.{Column, IsValid}
use Rattle.prima_base.specs.declared.value.Value.{Value}
use Rattle.cond_expr.specs.Trees.{Tree, Test}
use Rattle.smo_ops_types.specs.Operators.{Operator, nop, create_table, drop_table, rename_table}
use Rattle.smo_ops_types.specs.Operators.{copy_table, merge_table, partition_table, decompose_table}
use Rattle.smo_ops_types.specs.Operators.{join_table, add_column, drop_column, rename_column}
use Rattle.smo_ops_types.specs.Changes.{PlainChange, insertion, deletion, update}
use Rattle.smo_ops_types.specs.Commands.{PlainBody, changing, evolving}
use Rattle.command_codec_spec.specs.Reading.{Parsed, Parser, IsCorrectParser, pair, by_tag, digits}
use Rattle.command_codec_spec.specs.Reading.{list_parser}
use Rattle.command_codec_spec.specs.Encoding.{number, name_bytes, type_tag, value_bytes, tree_bytes}
use Rattle.command_codec_spec.specs.Encoding.{test_bytes, list_bytes, column_bytes, operator_bytes}
use Rattle.command_codec_spec.specs.Encoding.{cell_bytes, set_bytes, change_bytes, body_bytes}
use Rattle.command_codec_spec.specs.Encoding.{command_bytes}
use Rattle.command_codec_spec.specs.Valid.{IsWritableTree, IsWritableOperator}
use Rattle.command_codec_spec.specs.Valid.{IsWritableChange, TreeNamed, OperatorNamed, ChangeNamed}
use Rattle.command_codec_spec.specs.Valid.{IsTree, IsTest, IsOperator, IsChange, IsBody, IsCommand}
use Rattle.command_codec_spec.specs.Reader.{up_to, name, value, column_type, outermost, column_of}
use Rattle.command_codec_spec.specs.Reader.{columns, names, two_names, three_names, partition_of}
use Rattle.command_codec_spec.specs.Reader.{decompose_of, joined_tables, operator_arm}
use Rattle.command_codec_spec.specs.Reader.{operator, operators, cell, cells, set, sets, change_arm}
use Rattle.command_codec_spec.specs.Reader.{change, changes, body_arm, body, a_command, command}
use Rattle.command_codec_spec.specs.Reader.{created_table, renamed_table, copied_table}
use Rattle.command_codec_spec.specs.Reader.{merged_table}
use Rattle.command_codec_spec.specs.Reader.{added_column, dropped_column, renamed_column, insert_of}
use Rattle.command_codec_spec.specs.Reader.{delete_of, update_of, evolved}
use Rattle.command_codec_spec.proofs.Correctness.{retold, mapped_correct, pair_correct, ArmCorrect}
use Rattle.command_codec_spec.proofs.Correctness.{parts_correct, parts_read, tagged_correct}
use Rattle.command_codec_spec.proofs.Numbers.{number_correct}
use Rattle.command_codec_spec.proofs.OneMember.{ones, same_length, listed_as_members}
use Rattle.command_codec_spec.proofs.OneMember.{writable_ones, named_ones, all_ones}
use Rattle.command_codec_spec.proofs.PartFormats.{name_correct, value_correct, column_type_correct}
use Rattle.command_codec_spec.proofs.PartFormats.{items_correct, list_correct}
use Rattle.command_codec_spec.proofs.TreeFormats.{expr_correct_outermost, cond_correct_outermost}

-- ---- what holds of each in two ways

pub each_of_both : {A : Type 0} (P Q : A → Type 0) (l : List A) → AllByRecursion (λ a. P a × Q a) l
    → AllByRecursion P l × AllByRecursion Q l
each_of_both P Q [] h = (tt, tt)
each_of_both P Q (a ∷ l) h = let r = each_of_both P Q l h.1 in ((h.0.0, r.0), (h.0.1, r.1))

pub both_of_each : {A : Type 0} (P Q : A → Type 0) (l : List A) → AllByRecursion P l
    → AllByRecursion Q l → AllByRecursion (λ a. P a × Q a) l
both_of_each P Q [] h k = tt
both_of_each P Q (a ∷ l) h k = ((h.0, k.0), both_of_each P Q l h.1 k.1)

-- ---- lists with their counts

many_correct : {A : Type 0} (p : Parser A) (Is : A → Type 0) (encode : A → List ℕ) (k most : ℕ)
    → most < 2 ^ (8 * k) → IsCorrectParser p Is encode
    → IsCorrectParser (list_parser k most p) (λ l. (length l ≤ most) × AllByRecursion Is l)
    (list_bytes k encode)
many_correct p Is encode k most fits correct =
    list_correct p Is encode k most fits (λ n h. items_correct p Is encode correct n)

-- ---- names

abbrev Two : List ℕ × List ℕ → Type 0
Two x = IsName x.0 × IsName x.1

abbrev two_bytes : List ℕ × List ℕ → List ℕ
two_bytes x = name_bytes x.0 ++ name_bytes x.1

pub two_correct : IsCorrectParser two_names Two two_bytes
unfolding two_names
two_correct = pair_correct name IsName name_bytes name IsName name_bytes name_correct name_correct

abbrev Three : (List ℕ × List ℕ) × List ℕ → Type 0
Three x = Two x.0 × IsName x.1

abbrev three_bytes : (List ℕ × List ℕ) × List ℕ → List ℕ
three_bytes x = two_bytes x.0 ++ name_bytes x.1

pub three_correct : IsCorrectParser three_names Three three_bytes
unfolding three_names
three_correct = pair_correct two_names Two two_bytes name IsName name_bytes two_correct name_correct

abbrev Names : List (List ℕ) → Type 0
Names l = (length l ≤ 255) × AllByRecursion IsName l

pub names_correct : IsCorrectParser names Names (list_bytes 1 name_bytes)
unfolding names
names_correct = many_correct name IsName name_bytes 1 255 (omega arith) name_correct

pub column_correct : IsCorrectParser column_of (λ c. IsName c.0) column_bytes
unfolding column_of
column_correct = retold (pair name column_type) (λ c. IsName c.0 × Unit {0}) (λ c. IsName c.0)
    column_bytes column_bytes (λ c h. (h.0, refl)) (λ c h. (h, tt))
    (pair_correct name IsName name_bytes column_type (λ k. Unit {0}) (λ k. type_tag k ∷ [])
    name_correct column_type_correct)

abbrev Columns : List Column → Type 0
Columns l = (length l ≤ 255) × AllByRecursion (λ c. IsName c.0) l

pub columns_correct : IsCorrectParser columns Columns (list_bytes 1 column_bytes)
unfolding columns
columns_correct = many_correct column_of (λ c. IsName c.0) column_bytes 1 255 (omega arith)
    column_correct

-- ---- operators, by their tags

abbrev At : ℕ → Parser Operator → Type 0
At x p = ArmCorrect IsOperator operator_bytes x p

-- the parts after a tag, and the operator that is made of them
abbrev MadeOf : {B : Type 0} → ℕ → (B → Type 0) → (B → List ℕ) → (B → Operator) → Type 0
MadeOf {B} x Part part make = (b : B) → Part b → IsOperator (make b)
    × (operator_bytes (make b) ≡ x ∷ part b)

abbrev Create : List ℕ × List Column → Type 0
Create x = IsName x.0 × Columns x.1

abbrev create_bytes : List ℕ × List Column → List ℕ
create_bytes x = name_bytes x.0 ++ list_bytes 1 column_bytes x.1

create_parts : IsCorrectParser (pair name columns) Create create_bytes
create_parts = pair_correct name IsName name_bytes columns Columns (list_bytes 1 column_bytes)
    name_correct columns_correct

a_create : MadeOf 1 Create create_bytes created_table
a_create x h = (((let a = h.1.0 in omega (arith, a)), (h.0, h.1.1)), refl)

a_drop : MadeOf 2 IsName name_bytes drop_table
a_drop r h = ((tt, h), refl)

a_rename : MadeOf 3 Two two_bytes renamed_table
a_rename x h = ((tt, h), refl)

a_copy : MadeOf 4 Two two_bytes copied_table
a_copy x h = ((tt, h), refl)

a_merge : MadeOf 5 Three three_bytes merged_table
a_merge x h = ((tt, (h.0.0, h.0.1, h.1)), refl)

abbrev Partition : ((List ℕ × List ℕ) × Test) × List ℕ → Type 0
Partition x = (Two x.0.0 × IsTest x.0.1) × IsName x.1

abbrev partition_bytes : ((List ℕ × List ℕ) × Test) × List ℕ → List ℕ
partition_bytes x = two_bytes x.0.0 ++ test_bytes x.0.1 ++ name_bytes x.1

partition_parts : IsCorrectParser (pair (pair two_names outermost.cond) name) Partition
    partition_bytes
partition_parts = pair_correct (pair two_names outermost.cond) (λ x. Two x.0 × IsTest x.1)
    (λ x. two_bytes x.0 ++ test_bytes x.1) name IsName name_bytes
    (pair_correct two_names Two two_bytes outermost.cond IsTest test_bytes two_correct
    cond_correct_outermost) name_correct

a_partition : MadeOf 6 Partition partition_bytes partition_of
a_partition (((r, s), c), t) (((r_is, s_is), (writable, named)), t_is) =
    ((writable, (r_is, s_is, named, t_is)), refl)

abbrev Decompose : (((List ℕ × List ℕ) × List (List ℕ)) × List ℕ) × List (List ℕ) → Type 0
Decompose x = ((Two x.0.0.0 × Names x.0.0.1) × IsName x.0.1) × Names x.1

abbrev decompose_bytes : (((List ℕ × List ℕ) × List (List ℕ)) × List ℕ) × List (List ℕ) → List ℕ
decompose_bytes x = two_bytes x.0.0.0 ++ list_bytes 1 name_bytes x.0.0.1 ++ name_bytes x.0.1
    ++ list_bytes 1 name_bytes x.1

decompose_parts : IsCorrectParser (pair (pair (pair two_names names) name) names) Decompose
    decompose_bytes
decompose_parts =
    let first = pair_correct two_names Two two_bytes names Names (list_bytes 1 name_bytes)
    two_correct names_correct in
    let second = pair_correct (pair two_names names) (λ x. Two x.0 × Names x.1)
    (λ x. two_bytes x.0 ++ list_bytes 1 name_bytes x.1) name IsName name_bytes first
    name_correct in
    pair_correct (pair (pair two_names names) name) (λ x. (Two x.0.0 × Names x.0.1) × IsName x.1)
    (λ x. two_bytes x.0.0 ++ list_bytes 1 name_bytes x.0.1 ++ name_bytes x.1) names Names
    (list_bytes 1 name_bytes) second names_correct

a_decompose : MadeOf 7 Decompose decompose_bytes decompose_of
a_decompose ((((r, s), xs), t), ys)
    ((((r_is, s_is), (few_xs, xs_named)), t_is), (few_ys, ys_named)) = (
      (
        (omega (arith, few_xs), omega (arith, few_ys)),
        (r_is, s_is, xs_named, t_is, ys_named),
      ),
      refl,
    )

abbrev Join : ((List ℕ × List ℕ) × List ℕ) × Test → Type 0
Join x = Three x.0 × IsTest x.1

abbrev join_bytes : ((List ℕ × List ℕ) × List ℕ) × Test → List ℕ
join_bytes x = three_bytes x.0 ++ test_bytes x.1

join_parts : IsCorrectParser (pair three_names outermost.cond) Join join_bytes
join_parts = pair_correct three_names Three three_bytes outermost.cond IsTest test_bytes
    three_correct cond_correct_outermost

a_join : MadeOf 8 Join join_bytes joined_tables
a_join (((r, s), t), c) (((r_is, s_is), t_is), (writable, named)) =
    ((writable, (r_is, s_is, t_is, named)), refl)

abbrev Add : (List ℕ × List ℕ) × Tree → Type 0
Add x = Two x.0 × IsTree x.1

abbrev add_bytes : (List ℕ × List ℕ) × Tree → List ℕ
add_bytes x = two_bytes x.0 ++ tree_bytes x.1

add_parts : IsCorrectParser (pair two_names outermost.expr) Add add_bytes
add_parts = pair_correct two_names Two two_bytes outermost.expr IsTree tree_bytes two_correct
    expr_correct_outermost

an_add : MadeOf 9 Add add_bytes added_column
an_add x h = ((h.1.0, (h.0.0, h.0.1, h.1.1)), refl)

a_drop_column : MadeOf 10 Two two_bytes dropped_column
a_drop_column x h = ((tt, h), refl)

a_rename_column : MadeOf 11 Three three_bytes renamed_column
a_rename_column x h = ((tt, (h.0.0, h.0.1, h.1)), refl)

operator_arms : (x : ℕ) → up_to 11 x ≡ true → At x (operator_arm x)
operator_arms zero t = λ ts. ((tt, tt), refl)
operator_arms (suc zero) t = parts_correct (pair name columns) Create create_bytes create_parts
    created_table IsOperator operator_bytes 1 a_create
operator_arms (suc (suc zero)) t = parts_correct name IsName name_bytes name_correct drop_table
    IsOperator operator_bytes 2 a_drop
operator_arms (suc (suc (suc zero))) t = parts_correct two_names Two two_bytes two_correct
    renamed_table IsOperator operator_bytes 3 a_rename
operator_arms (suc (suc (suc (suc zero)))) t =
    parts_correct two_names Two two_bytes two_correct copied_table IsOperator
    operator_bytes 4 a_copy
operator_arms (suc (suc (suc (suc (suc zero))))) t =
    parts_correct three_names Three three_bytes three_correct merged_table
    IsOperator operator_bytes 5 a_merge
operator_arms (suc (suc (suc (suc (suc (suc zero)))))) t =
    parts_correct (pair (pair two_names outermost.cond) name) Partition partition_bytes
    partition_parts partition_of IsOperator operator_bytes 6 a_partition
operator_arms (suc (suc (suc (suc (suc (suc (suc zero))))))) t =
    parts_correct (pair (pair (pair two_names names) name) names) Decompose decompose_bytes
    decompose_parts decompose_of IsOperator operator_bytes 7 a_decompose
operator_arms (suc (suc (suc (suc (suc (suc (suc (suc zero)))))))) t =
    parts_correct (pair three_names outermost.cond) Join join_bytes join_parts
    joined_tables IsOperator operator_bytes 8 a_join
operator_arms (suc (suc (suc (suc (suc (suc (suc (suc (suc zero))))))))) t =
    parts_correct (pair two_names outermost.expr) Add add_bytes add_parts
    added_column IsOperator operator_bytes 9 an_add
operator_arms (suc (suc (suc (suc (suc (suc (suc (suc (suc (suc zero)))))))))) t =
    parts_correct two_names Two two_bytes two_correct dropped_column IsOperator
    operator_bytes 10 a_drop_column
operator_arms (suc (suc (suc (suc (suc (suc (suc (suc (suc (suc (suc zero))))))))))) t =
    parts_correct three_names Three three_bytes three_correct renamed_column
    IsOperator operator_bytes 11 a_rename_column
operator_arms (suc (suc (suc (suc (suc (suc (suc (suc (suc (suc (suc (suc n)))))))))))) t =
    absurd (omega (
      arith,
      leb-true (suc (suc (suc
          (suc (suc (suc (suc (suc (suc (suc (suc (suc n)))))))))))) 11 t,
    ))

operator_again : (op : Operator) → IsOperator op → (rest : List ℕ)
    → by_tag (up_to 11) operator_arm (operator_bytes op ++ rest) ≡ Parsed op rest
operator_again nop h rest = refl
operator_again (create_table r cs) h rest = parts_read (pair name columns) Create create_bytes
    create_parts created_table IsOperator operator_bytes 1 a_create (r, cs)
    (h.1.0, ((let a = h.0 in omega (arith, a)), h.1.1)) rest
operator_again (drop_table r) h rest = parts_read name IsName name_bytes name_correct drop_table
    IsOperator operator_bytes 2 a_drop r h.1 rest
operator_again (rename_table r t) h rest = parts_read two_names Two two_bytes two_correct
    renamed_table IsOperator operator_bytes 3 a_rename (r, t) h.1 rest
operator_again (copy_table r t) h rest = parts_read two_names Two two_bytes two_correct
    copied_table IsOperator operator_bytes 4 a_copy (r, t) h.1 rest
operator_again (merge_table r s t) h rest = parts_read three_names Three three_bytes three_correct
    merged_table IsOperator operator_bytes 5 a_merge ((r, s), t)
    ((h.1.0, h.1.1), h.1.2) rest
operator_again (partition_table r s c t) h rest =
    parts_read (pair (pair two_names outermost.cond) name) Partition partition_bytes partition_parts
    partition_of IsOperator operator_bytes 6 a_partition
    (((r, s), c), t) (((h.1.0, h.1.1), (h.0, h.1.2)), h.1.3) rest
operator_again (decompose_table r s xs t ys) h rest =
    parts_read (pair (pair (pair two_names names) name) names) Decompose decompose_bytes
    decompose_parts decompose_of IsOperator operator_bytes 7 a_decompose ((((r, s), xs), t), ys) (
      (((h.1.0, h.1.1), ((let a = h.0.0 in omega (arith, a)), h.1.2)), h.1.3),
      ((let b = h.0.1 in omega (arith, b)), h.1.4),
    ) rest
operator_again (join_table r s t c) h rest = parts_read (pair three_names outermost.cond) Join
    join_bytes join_parts joined_tables IsOperator operator_bytes 8 a_join
    (((r, s), t), c) (((h.1.0, h.1.1), h.1.2), (h.0, h.1.3)) rest
operator_again (add_column c e r) h rest = parts_read (pair two_names outermost.expr) Add add_bytes
    add_parts added_column IsOperator operator_bytes 9 an_add ((r, c), e)
    ((h.1.0, h.1.1), (h.0, h.1.2)) rest
operator_again (drop_column c r) h rest = parts_read two_names Two two_bytes two_correct
    dropped_column IsOperator operator_bytes 10 a_drop_column (r, c) h.1 rest
operator_again (rename_column b r c) h rest =
    parts_read three_names Three three_bytes three_correct renamed_column
    IsOperator operator_bytes 11 a_rename_column ((r, b), c) ((h.1.0, h.1.1), h.1.2) rest

pub operator_correct : IsCorrectParser operator IsOperator operator_bytes
unfolding operator
operator_correct = tagged_correct (up_to 11) operator_arm IsOperator operator_bytes nop (tt, tt)
    operator_arms operator_again

abbrev Operators : List Operator → Type 0
Operators l = (length l ≤ 4294967295) × AllByRecursion IsOperator l

operators_correct : IsCorrectParser operators Operators (list_bytes 4 operator_bytes)
unfolding operators
operators_correct = many_correct operator IsOperator operator_bytes 4 4294967295 (omega arith)
    operator_correct

-- ---- changes

abbrev Cells : List (List ℕ × Value) → Type 0
Cells l = (length l ≤ 4294967295) × AllByRecursion (λ c. IsName c.0 × IsValid c.1) l

cells_correct : IsCorrectParser cells Cells (list_bytes 4 cell_bytes)
unfolding cells cell
cells_correct = many_correct (pair name value) (λ c. IsName c.0 × IsValid c.1) cell_bytes 4
    4294967295 (omega arith) (pair_correct name IsName name_bytes value IsValid value_bytes
    name_correct value_correct)

abbrev IsSet : List ℕ × Tree → Type 0
IsSet s = IsWritableTree s.1 × (IsName s.0 × TreeNamed s.1)

abbrev Sets : List (List ℕ × Tree) → Type 0
Sets l = (length l ≤ 4294967295) × AllByRecursion IsSet l

sets_correct : IsCorrectParser sets Sets (list_bytes 4 set_bytes)
unfolding sets set
sets_correct = many_correct (pair name outermost.expr) IsSet set_bytes 4 4294967295 (omega arith)
    (retold (pair name outermost.expr) (λ s. IsName s.0 × IsTree s.1) IsSet set_bytes set_bytes
    (λ s h. ((h.1.0, (h.0, h.1.1)), refl)) (λ s h. (h.1.0, (h.0, h.1.1)))
    (pair_correct name IsName name_bytes outermost.expr IsTree tree_bytes name_correct
    expr_correct_outermost))

abbrev Insert : List ℕ × List (List ℕ × Value) → Type 0
Insert x = IsName x.0 × Cells x.1

abbrev insert_bytes : List ℕ × List (List ℕ × Value) → List ℕ
insert_bytes x = name_bytes x.0 ++ list_bytes 4 cell_bytes x.1

insert_parts : IsCorrectParser (pair name cells) Insert insert_bytes
insert_parts = pair_correct name IsName name_bytes cells Cells (list_bytes 4 cell_bytes)
    name_correct cells_correct

abbrev Delete : List ℕ × Test → Type 0
Delete x = IsName x.0 × IsTest x.1

abbrev delete_bytes : List ℕ × Test → List ℕ
delete_bytes x = name_bytes x.0 ++ test_bytes x.1

delete_parts : IsCorrectParser (pair name outermost.cond) Delete delete_bytes
delete_parts = pair_correct name IsName name_bytes outermost.cond IsTest test_bytes name_correct
    cond_correct_outermost

abbrev Update : (List ℕ × List (List ℕ × Tree)) × Test → Type 0
Update x = (IsName x.0.0 × Sets x.0.1) × IsTest x.1

abbrev update_bytes : (List ℕ × List (List ℕ × Tree)) × Test → List ℕ
update_bytes x = name_bytes x.0.0 ++ list_bytes 4 set_bytes x.0.1 ++ test_bytes x.1

update_parts : IsCorrectParser (pair (pair name sets) outermost.cond) Update update_bytes
update_parts = pair_correct (pair name sets) (λ x. IsName x.0 × Sets x.1)
    (λ x. name_bytes x.0 ++ list_bytes 4 set_bytes x.1) outermost.cond IsTest test_bytes
    (pair_correct name IsName name_bytes sets Sets (list_bytes 4 set_bytes) name_correct
    sets_correct) cond_correct_outermost

abbrev ChangeOf : {B : Type 0} → ℕ → (B → Type 0) → (B → List ℕ) → (B → PlainChange) → Type 0
ChangeOf {B} x Part part make = (b : B) → Part b → IsChange (make b)
    × (change_bytes (make b) ≡ x ∷ part b)

an_insert : ChangeOf 0 Insert insert_bytes insert_of
an_insert x h = (((let a = h.1.0 in omega (arith, a)), (h.0, h.1.1)), refl)

a_delete : ChangeOf 1 Delete delete_bytes delete_of
a_delete x h = ((h.1.0, (h.0, h.1.1)), refl)

an_update : ChangeOf 2 Update update_bytes update_of
an_update ((r, sets), c) ((r_is, (few, each)), (writable, named)) =
    let both = each_of_both (λ s. IsWritableTree s.1) (λ s. IsName s.0 × TreeNamed s.1) sets
    each in (
      ((omega (arith, few), both.0, writable), (r_is, both.1, named)),
      refl,
    )

change_arms : (x : ℕ) → up_to 2 x ≡ true → ArmCorrect IsChange change_bytes x (change_arm x)
change_arms zero t = parts_correct (pair name cells) Insert insert_bytes insert_parts
    insert_of IsChange change_bytes 0 an_insert
change_arms (suc zero) t = parts_correct (pair name outermost.cond) Delete delete_bytes delete_parts
    delete_of IsChange change_bytes 1 a_delete
change_arms (suc (suc zero)) t = parts_correct (pair (pair name sets) outermost.cond) Update
    update_bytes update_parts update_of IsChange change_bytes 2 an_update
change_arms (suc (suc (suc n))) t = absurd (omega (arith, leb-true (suc (suc (suc n))) 2 t))

change_again : (c : PlainChange) → IsChange c → (rest : List ℕ)
    → by_tag (up_to 2) change_arm (change_bytes c ++ rest) ≡ Parsed c rest
change_again (insertion t l) h rest = parts_read (pair name cells) Insert insert_bytes insert_parts
    insert_of IsChange change_bytes 0 an_insert (t, l)
    (h.1.0, ((let a = h.0 in omega (arith, a)), h.1.1)) rest
change_again (deletion t c) h rest = parts_read (pair name outermost.cond) Delete delete_bytes
    delete_parts delete_of IsChange change_bytes 1 a_delete (t, c)
    (h.1.0, (h.0, h.1.1)) rest
change_again (update t l c) h rest =
    parts_read (pair (pair name sets) outermost.cond) Update update_bytes update_parts
    update_of IsChange change_bytes 2 an_update ((t, l), c) (
      (
        h.1.0,
        (
          (let a = h.0.0 in omega (arith, a)),
          both_of_each (λ s. IsWritableTree s.1) (λ s. IsName s.0 × TreeNamed s.1) l h.0.1 h.1.1,
        ),
      ),
      (h.0.2, h.1.2),
    ) rest

-- an insertion of no cells
abbrev an_insertion : PlainChange
an_insertion = insertion (97 ∷ []) []

is_change : IsChange an_insertion
is_change = (omega arith, (record { some = omega arith; short = omega arith; valid = refl }, tt))

pub change_correct : IsCorrectParser change IsChange change_bytes
unfolding change
change_correct = tagged_correct (up_to 2) change_arm IsChange change_bytes an_insertion is_change
    change_arms change_again

abbrev Changes : List PlainChange → Type 0
Changes l = (length l ≤ 4294967295) × AllByRecursion IsChange l

changes_correct : IsCorrectParser changes Changes (list_bytes 4 change_bytes)
unfolding changes
changes_correct = many_correct change IsChange change_bytes 4 4294967295 (omega arith)
    change_correct

-- ---- commands

abbrev Evolved : Operator × List Operator → Type 0
Evolved x = IsOperator x.0 × Operators x.1

abbrev evolved_bytes : Operator × List Operator → List ℕ
evolved_bytes x = operator_bytes x.0 ++ list_bytes 4 operator_bytes x.1

evolve_parts : IsCorrectParser (pair operator operators) Evolved evolved_bytes
evolve_parts = pair_correct operator IsOperator operator_bytes operators Operators
    (list_bytes 4 operator_bytes) operator_correct operators_correct

some_changes : (l : List PlainChange) → Changes l → IsBody (changing l)
    × (body_bytes (changing l) ≡ 0 ∷ list_bytes 4 change_bytes l)
some_changes l h = let r = each_of_both IsWritableChange ChangeNamed l h.1 in
    ((((let a = h.0 in omega (arith, a)), r.0), r.1), refl)

an_evolution : (x : Operator × List Operator) → Evolved x
    → IsBody (evolving (x.0 ∷ []) (ones x.1))
    × (body_bytes (evolving (x.0 ∷ []) (ones x.1)) ≡ 1 ∷ evolved_bytes x)
an_evolution x h =
    let r = each_of_both IsWritableOperator OperatorNamed x.1 h.1.1 in
    let few = h.1.0 in
    let same = same_length x.1 in (
      (
        (h.0.0, omega (arith, few, same), writable_ones x.1 r.0),
        ((h.0.1, tt), named_ones x.1 r.1),
      ),
      ap (λ (bytes : List ℕ). 1 ∷ operator_bytes x.0 ++ bytes) (listed_as_members x.1),
    )

body_arms : (x : ℕ) → up_to 1 x ≡ true → ArmCorrect IsBody body_bytes x (body_arm x)
body_arms zero t = parts_correct changes Changes (list_bytes 4 change_bytes) changes_correct
    changing IsBody body_bytes 0 some_changes
body_arms (suc zero) t = parts_correct (pair operator operators) Evolved evolved_bytes
    evolve_parts evolved IsBody body_bytes 1 an_evolution
body_arms (suc (suc n)) t = absurd (omega (arith, leb-true (suc (suc n)) 1 t))

evolved_again : (op : Operator) (ops : List Operator) → IsOperator op → Operators ops
    → (rest : List ℕ)
    → by_tag (up_to 1) body_arm (body_bytes (evolving (op ∷ []) (ones ops)) ++ rest)
    ≡ Parsed (evolving (op ∷ []) (ones ops)) rest
evolved_again op ops h k rest =
    ap (λ (bytes : List ℕ). by_tag (up_to 1) body_arm ((1 ∷ operator_bytes op ++ bytes) ++ rest))
    (listed_as_members ops)
    ∙ parts_read (pair operator operators) Evolved evolved_bytes evolve_parts evolved IsBody
    body_bytes 1 an_evolution (op, ops) (h, k) rest

body_again : (b : PlainBody) → IsBody b → (rest : List ℕ)
    → by_tag (up_to 1) body_arm (body_bytes b ++ rest) ≡ Parsed b rest
body_again (changing l) h rest = parts_read changes Changes (list_bytes 4 change_bytes)
    changes_correct changing IsBody body_bytes 0 some_changes l
    ((let a = h.0.0 in omega (arith, a)), both_of_each IsWritableChange ChangeNamed l h.0.1 h.1)
    rest
body_again (evolving [] l) h rest = absurd h.0.0
body_again (evolving (op ∷ []) l) h rest =
    let all = all_ones l h.0.2 h.1.1 in
    let few = h.0.1 in
    let same = same_length all.0 in
    let long : length (ones all.0) ≡ length l = ap length all.2 in
    subst (λ (k : List (List Operator)).
    by_tag (up_to 1) body_arm (body_bytes (evolving (op ∷ []) k) ++ rest)
    ≡ Parsed (evolving (op ∷ []) k) rest) all.2
    (evolved_again op all.0 (h.0.0, h.1.0.0) (omega (arith, few, same, long), all.1) rest)
body_again (evolving (op ∷ p ∷ ops) l) h rest = absurd h.0.0

pub body_correct : IsCorrectParser body IsBody body_bytes
unfolding body
body_correct = tagged_correct (up_to 1) body_arm IsBody body_bytes (changing [])
    ((omega arith, tt), tt) body_arms body_again

stamp_correct : IsCorrectParser (digits 18446744073709551614 8 0) (λ n. n ≤ 18446744073709551614)
    (number 8)
stamp_correct = number_correct 18446744073709551614 8 (omega arith)

pub command_correct : IsCorrectParser command IsCommand command_bytes
unfolding command
command_correct = mapped_correct (pair (digits 18446744073709551614 8 0) body)
    (λ x. (x.0 ≤ 18446744073709551614) × IsBody x.1) (λ x. number 8 x.0 ++ body_bytes x.1)
    (pair_correct (digits 18446744073709551614 8 0) (λ n. n ≤ 18446744073709551614) (number 8) body
    IsBody body_bytes stamp_correct body_correct)
    a_command IsCommand command_bytes
    (λ x h. (((let a = h.0 in omega (arith, a)), h.1), refl))
    (λ c h. ((c.stamp, c.body), ((let a = h.0 in omega (arith, a)), h.1), refl))
