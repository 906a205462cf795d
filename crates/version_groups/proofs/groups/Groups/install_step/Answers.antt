use Rattle.std.proofs.Common.{◌≡◌, ◌<◌, ◌+◌, List, [], ◌∷◌, length, ap, sym, subst, ◌∙◌, arith}
use Rattle.std.proofs.lemmas.List.{length-append}
use Rattle.smo_ops_types.specs.declared.version.Version.{Version}
use Rattle.smo_ops_types.specs.Commands.{version_of}
use Rattle.version_groups.specs.Steps.{changed, evolved, step_of, IsStep}
use Rattle.version_groups.specs.Groups.{versions_in, table_in}
use Rattle.version_groups.specs.Installing.{HasStep}
use Rattle.version_groups.proofs.Applied.{changes_made, changes_leave, version_made, have_room}
use Rattle.version_groups.proofs.Applied.{is_room, table_stays}
use Rattle.version_groups.proofs.groups.Groups.install_step.Goals as goal

pub install_changes-requires : goal.install_changes-requires
install_changes-requires c =
    let past = c.requires.0 in
    let command = c.requires.1 in
    let is : step_of c.args.step ≡ changed c.in-Changed.prepared.items =
    ap step_of c.in-Changed.is in
    have_room c.args.self.now past command.stamp command.body c.in-Changed.prepared.items
    (subst (IsStep c.args.self.now past command.stamp command.body) is c.requires.6)

pub returns-in-Changed-clause-represents : goal.returns-in-Changed-clause-represents
returns-in-Changed-clause-represents c = λ past command represents accepted valid hold ready.
    let is : step_of c.args.step ≡ changed c.in-Changed.prepared.items =
    ap step_of c.in-Changed.is in
    changes_made c.args.self.now c.install_changes.new.self past represents
    c.in-Changed.prepared.items
    c.install_changes.ensures command.stamp command.body valid accepted hold
    (subst (IsStep c.args.self.now past command.stamp command.body) is ready)

pub install_version-requires : goal.install_version-requires
install_version-requires c =
    let past = c.requires.0 in
    let command = c.requires.1 in
    let is : step_of c.args.step ≡ evolved (version_of c.in-Evolved.version)
    c.in-Evolved.begun.items c.in-Evolved.places.items = ap step_of c.in-Evolved.is in
    let r = is_room c.args.self.now past c.requires.2 command.stamp command.body c.requires.3
    c.in-Evolved.version c.in-Evolved.begun.items c.in-Evolved.places.items
    (subst (IsStep c.args.self.now past command.stamp command.body) is c.requires.6) in
    record {
      come = r.come;
      there = r.there;
      ordered = r.ordered;
      room = r.room;
      beginnings =
          r.beginnings;
      fits = r.fits;
    }

pub returns-in-Evolved-clause-represents : goal.returns-in-Evolved-clause-represents
returns-in-Evolved-clause-represents c = λ past command represents accepted valid hold ready.
    let is : step_of c.args.step ≡ evolved (version_of c.in-Evolved.version)
    c.in-Evolved.begun.items c.in-Evolved.places.items = ap step_of c.in-Evolved.is in
    version_made c.args.self.now c.install_version.new.self past represents c.in-Evolved.version
    c.in-Evolved.begun.items c.in-Evolved.places.items c.install_version.ensures command.stamp
    command.body valid accepted hold
    (subst (IsStep c.args.self.now past command.stamp command.body) is ready)

pub returns-in-Changed-clause-earlier : goal.returns-in-Changed-clause-earlier
returns-in-Changed-clause-earlier c =
    let past = c.requires.0 in
    let command = c.requires.1 in
    let is : step_of c.args.step ≡ changed c.in-Changed.prepared.items =
    ap step_of c.in-Changed.is in
    λ k l name. changes_leave c.args.self.now c.install_changes.new.self past c.requires.2
    c.in-Changed.prepared.items c.install_changes.ensures command.stamp command.body c.requires.4
    c.requires.3
    (subst (IsStep c.args.self.now past command.stamp command.body) is c.requires.6) k
    (subst (λ (vs : List Version). k < length vs) c.install_changes.ensures.versions l) name

pub returns-in-Evolved-clause-earlier : goal.returns-in-Evolved-clause-earlier
returns-in-Evolved-clause-earlier c =
    let one_more : length c.install_version.new.self.versions
    ≡ length c.args.self.now.versions + 1 =
    ap (λ (vs : List Version). length vs) c.install_version.ensures.versions
    ∙ length-append c.args.self.now.versions (c.in-Evolved.version ∷ []) in
    λ k l name. table_stays (versions_in c.install_version.new.self) k
    (table_in c.args.self.now k name) (table_in c.install_version.new.self k name)
    (c.install_version.ensures.tables k name (omega (arith, l)))

pub returns-in-Changed-clause-step : goal.returns-in-Changed-clause-step
returns-in-Changed-clause-step c = subst (HasStep c.args.self.now c.install_changes.new.self)
    (sym c.in-Changed.is) c.install_changes.ensures

pub returns-in-Evolved-clause-step : goal.returns-in-Evolved-clause-step
returns-in-Evolved-clause-step c = subst (HasStep c.args.self.now c.install_version.new.self)
    (sym c.in-Evolved.is) c.install_version.ensures
