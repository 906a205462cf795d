use Rattle.store_image.proofs.WrittenParts.{keys_written}
use Rattle.store_image.proofs.image_of_store.put_keys.Goals as goal

pub returns-clause-bytes : goal.returns-clause-bytes
returns-clause-bytes g c =
    keys_written c.args.out.now.items c.put_u64.new.out.items c.put_each_key.new.out.items
    c.keys.result c.args.store.now.keys c.scan_keys.result c.keys.ensures
    c.scan_keys.ensures.entries
    c.in_ok-put_u64.ensures.ok c.in_ok-put_each_key.ensures
