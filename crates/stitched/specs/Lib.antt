pub mod Stitched
