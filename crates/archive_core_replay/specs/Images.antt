-- What contracts above say of images, passed on.
pub use Rattle.store_image.specs.ImageIn.{GroupsHold, IsImageOf, image_in}
