use Rattle.std.proofs.Common.{List, map, sym, subst, ◌∙◌}
use Rattle.std.specs.List.{AllByRecursion}
use Rattle.smo_ops_types.specs.Commands.{version_of}
use Rattle.smo_ops_types.specs.declared.version.Version.{Version}
use Rattle.store_image.specs.ImageIn.{CanBeWritten}
use Rattle.store_image.proofs.image_of_store.put_versions.Goals as goal

pub put_each_version-requires : goal.put_each_version-requires
put_each_version-requires c =
    subst (λ (l : List Version). AllByRecursion CanBeWritten (map version_of l))
    (sym (c.deref.ensures.value ∙ c.versions.ensures)) c.requires
