pub mod LooksTold
