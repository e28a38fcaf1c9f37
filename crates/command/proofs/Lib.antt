mod Cuts
mod Listing
mod Loading
mod Naming
mod Pairing
mod Shrinking
