-- What the code writes for the entries of a word.
pub mod Laying
