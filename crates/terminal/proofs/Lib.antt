mod Laying
mod Pairs
