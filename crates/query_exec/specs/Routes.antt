-- The parts of a slice, as they are reached from the version that is asked: back from it, and on
-- after it.
use Rattle.std.specs.Prelude.{◌≡◌, ℕ, ◌+◌, ◌<◌, ◌≤◌, ◌++◌, true, nat_lt, List, [], ◌∷◌, length, map}
use Rattle.std.specs.Prelude.{reverse, None, ⊤, if◌then◌else◌}
use Rattle.std.specs.List.{filter}
use Rattle.std.specs.FinMap.{get}
use Rattle.relations_spec.specs.Sets.{In}
use Rattle.relations_spec.specs.Spans.{Span, covers, forever}
use Rattle.smo_ops_types.specs.Commands.{PlainVersion}
use Rattle.smo_ops_versions_spec.specs.LostTables.{lost_tables}
use Rattle.version_groups.specs.Representation.{IsInForce}
use Rattle.plain_answers_spec.specs.Reading.{Read}
use Rattle.piece_ir_spec.specs.UnfoldedPieces.{MayBeAsked}
use Rattle.rewrite.specs.WalkedPieces.{LeadsAway}
use Rattle.query_pieces_spec.specs.Gathering.{HasMoment}
use Rattle.period_split.specs.Splitting.{Part, AscendFrom}
use Rattle.query_exec.specs.declared.route.Route.{Route}

-- those of the asked version and of versions before it, from the last to the first
abbrev pub back_from : ℕ → List Part → List Part
back_from asked [] = []
back_from asked (p ∷ parts) = back_from asked parts ++ (if nat_lt asked p.1 then [] else p ∷ [])

-- those of later versions
abbrev pub on_from : ℕ → List Part → List Part
on_from asked parts = filter (λ (p : Part). nat_lt asked p.1) parts

-- no part has a later version than the one before it, and the first none later than this one
abbrev pub DescendFrom : ℕ → List Part → Type 0
DescendFrom high [] = ⊤
DescendFrom high (p ∷ parts) = (p.1 ≤ high) × DescendFrom p.1 parts

-- the version is there, and in force at each moment of the part
pub record IsOwn (versions : List PlainVersion) (p : Part) : Type 0 where
  pub there : p.1 ≤ length versions
  pub moments : (m : ℕ) → covers p.0 m ≡ true → IsInForce versions p.1 m

abbrev pub spans_of : List Part → List Span
spans_of parts = map (λ (p : Part). p.0) parts

-- the parts that are earlier, and those that are later, are in the order in which a walk from the
-- asked version comes to them; each part belongs to its version, and together they have each moment
-- of the slice
pub record IsRoute (versions : List PlainVersion) (route : Route) : Type 0 where
  pub asked : route.asked ≤ length versions
  pub ends : route.slice.end ≤ forever
  pub back : DescendFrom route.asked route.earlier.items
  pub on : AscendFrom (route.asked + 1) route.later.items
  pub earlier : (p : Part) → In p route.earlier.items → IsOwn versions p
  pub later : (p : Part) → In p route.later.items → IsOwn versions p
  pub within : (p : Part) → In p route.later.items → (m : ℕ) → covers p.0 m ≡ true
      → covers route.slice m ≡ true
  pub order : route.parts.items ≡ reverse route.earlier.items ++ route.later.items
  pub each : (p : Part) → In p route.parts.items → IsOwn versions p
  pub all : (m : ℕ) → m < forever → covers route.slice m ≡ true
      → HasMoment (spans_of route.parts.items) m

-- something is asked of the table, which is not lost on the way from any of the parts' versions
pub record MayBeRead (versions : List PlainVersion) (route : Route) (table : List ℕ) (r : Read) :
    Type 0 where
  pub question : MayBeAsked versions route.asked table r
  pub kept : (p : Part) → In p route.later.items
      → get (lost_tables versions p.1 route.asked) table ≡ None

-- from version v the way to each part's version leads away from the asked one
abbrev pub LeadAway : ℕ → ℕ → List Part → Type 0
LeadAway asked v [] = ⊤
LeadAway asked v (p ∷ parts) = LeadsAway asked v p.1 × LeadAway asked p.1 parts

-- something is asked of the table of a version; a walk from there comes to the parts' versions in
-- their order, and the table is not lost on the way
pub record AreAlong (versions : List PlainVersion) (asked : ℕ) (table : List ℕ) (r : Read)
    (parts : List Part) : Type 0 where
  pub question : MayBeAsked versions asked table r
  pub here : asked ≤ length versions
  pub way : LeadAway asked asked parts
  pub there : (p : Part) → In p parts → p.1 ≤ length versions
  pub kept : (p : Part) → In p parts → get (lost_tables versions p.1 asked) table ≡ None
